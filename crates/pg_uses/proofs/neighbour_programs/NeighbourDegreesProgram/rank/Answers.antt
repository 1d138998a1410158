use Rattle.pg_uses.proofs.Keeping.{new_kept}
use Rattle.pg_uses.proofs.neighbour_programs.NeighbourDegreesProgram.rank.Goals as goal

pub returns-clause-opening : goal.returns-clause-opening
returns-clause-opening c = λ new. new_kept c.args.self.now new
