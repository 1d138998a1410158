use Rattle.std.proofs.Common.{◌≡◌, ◌<◌, true}
use Rattle.std.specs.Prelude.{◌↔◌}
use Rattle.pg_group.specs.Entries.{Each}
use Rattle.pg_run.specs.Turns.{is_done}
use Rattle.pg_run.proofs.Passes.{SteppedBelow}
use Rattle.pg_run.proofs.driving.turn_each.Given as goal

abbrev pub invariant-loop-i : goal.invariant-loop-i
invariant-loop-i g l =
    record {
      stepped : SteppedBelow g.D.Driven.Turned l.i l.fn.machines l.machines;
      ended : (is_done l.all ≡ true) ↔ Each (λ place x. place < l.i → g.D.Driven.ended x ≡ true) l.machines;
    }
