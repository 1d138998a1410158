use Rattle.std.proofs.Common.{suc}
use Rattle.pg_run.proofs.driving.drive_here.Goals as goal

pub passes-preserved : goal.passes-preserved
passes-preserved g c = (suc c.passes.invariant.0, (c.passes.machines, c.passes.invariant.1, c.turn_each.ensures.pass))

pub returns-in-Done-clause-passes : goal.returns-in-Done-clause-passes
returns-in-Done-clause-passes g c = (suc c.passes.invariant.0, (c.passes.machines, c.passes.invariant.1, c.turn_each.ensures.pass))
