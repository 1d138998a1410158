use Rattle.std.proofs.Common.{arith}
use Rattle.pg_run.proofs.Blocks.{start_counted, start_of_all}
use Rattle.pg_run.proofs.cutting.Cut.start.Goals as goal

pub returns-clause-rule : goal.returns-clause-rule
returns-clause-rule c = omega (arith, start_counted c.args.self.now.places c.args.self.now.groups c.args.group, c.min.ensures)

pub returns-clause-all : goal.returns-clause-all
returns-clause-all c = start_of_all c.args.self.now.places c.args.self.now.groups c.requires.some
