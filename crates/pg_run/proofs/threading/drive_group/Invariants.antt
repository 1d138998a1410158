use Rattle.pg_run.specs.Repeated.{Repeated, AllStepped}
use Rattle.pg_run.proofs.threading.drive_group.Given as goal

abbrev pub invariant-turns : goal.invariant-turns
invariant-turns g l = AllStepped (Repeated g.D.Driven.Turned l._turned) l.fn.machines l.machines
