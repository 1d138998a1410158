use Rattle.std.proofs.Common.{◌≡◌, drop}
use Rattle.pg_outside.specs.Fronts.{planned_front}
use Rattle.pg_outside.proofs.fronts.planned_front.Given as goal

-- The pairs that are left decide.
abbrev pub invariant-loop-number : goal.invariant-loop-number
invariant-loop-number l = planned_front l.call (drop l.number-index l.pairs) ≡ planned_front l.call l.pairs
