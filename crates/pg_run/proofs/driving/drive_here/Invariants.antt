use Rattle.std.proofs.Common.{ℕ}
use Rattle.pg_run.specs.Repeated.{Repeated, AllStepped}
use Rattle.pg_run.proofs.driving.drive_here.Given as goal

abbrev pub invariant-passes : goal.invariant-passes
invariant-passes g l = (passes : ℕ) × Repeated (AllStepped g.D.Driven.Turned) passes l.fn.machines l.machines
