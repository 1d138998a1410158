use Rattle.std.proofs.Common.{◌≡◌, length}
use Rattle.pg_group.specs.Entries.{Each}
use Rattle.pg_group.specs.Rolls.{IsNewRoll}
use Rattle.pg_run_tests.proofs.tests.rolls.Given as goal

abbrev pub invariant-loop-rank : goal.invariant-loop-rank
invariant-loop-rank l = record {
  count : length l.rolls.items ≡ l.rank;
  new : Each (λ rank p. IsNewRoll p) l.rolls.items;
  own : Each (λ rank p. p.rank.0 ≡ rank) l.rolls.items;
  size : Each (λ rank p. p.ranks ≡ l.ranks) l.rolls.items;
}
