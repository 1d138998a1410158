use Rattle.std.proofs.Common.{◌≡◌, ℕ, length}
use Rattle.pg_run.specs.Repeated.{Repeated, RepeatedToEnd, AllStepped}
use Rattle.pg_run.proofs.threading.drive_all.Given as goal

abbrev pub invariant-passes : goal.invariant-passes
invariant-passes g l =
    record {
      passes : (passes : ℕ) × Repeated (AllStepped (RepeatedToEnd g.D.Driven.Turned g.D.Driven.ended 100000)) passes l.fn.machines l.machines;
      long : length l.machines ≡ length l.fn.machines;
    }
