use Rattle.std.proofs.Common.{ℕ, ◌-◌, ◌<◌, ◌≤◌}
use Rattle.std.specs.Prelude.{slice_index}
use Rattle.pg_boruvka.specs.declared.messages.Message.{Message}
use Rattle.pg_boruvka.specs.Numbered.{IsPieceNo}
use Rattle.pg_boruvka.proofs.cutting.next_piece.Given as goal

-- No number that was passed is that of a piece with a key.
abbrev pub invariant-loop-number : goal.invariant-loop-number
invariant-loop-number l = (number : ℕ) (m : Message) → l.at ≤ number → number < l.number → IsPieceNo (slice_index l.keys) l.first (l.past - l.first) number m → ⊥
