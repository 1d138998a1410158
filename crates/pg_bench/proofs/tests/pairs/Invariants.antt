use Rattle.std.proofs.Common.{◌≡◌, length}
use Rattle.std.specs.Prelude.{None}
use Rattle.pg_group.specs.Entries.{Each}
use Rattle.pg_group.specs.Rolls.{IsNewRoll}
use Rattle.pg_bench.proofs.tests.pairs.Given as goal

abbrev pub invariant-loop-rank : goal.invariant-loop-rank
invariant-loop-rank l = record {
  count : length l.pairs.items ≡ l.rank;
  new : Each (λ rank p. IsNewRoll p.first × IsNewRoll p.second × (p.vote ≡ None)) l.pairs.items;
  own : Each (λ rank p. p.first.rank.0 ≡ rank) l.pairs.items;
  size : Each (λ rank p. p.first.ranks ≡ l.ranks) l.pairs.items;
}
