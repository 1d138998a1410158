use Rattle.std.proofs.Common.{◌≡◌, length}
use Rattle.pg_group.specs.Entries.{Each}
use Rattle.std.specs.Prelude.{false, None}
use Rattle.pg_run_tests.proofs.counting_tests.busy_programs.Given as goal

abbrev pub invariant-loop-rank : goal.invariant-loop-rank
invariant-loop-rank l = record {
  count : length l.programs.items ≡ l.rank;
  new : Each (λ rank p. (p.cast ≡ None) × (p.idle ≡ false) × (p.ended ≡ false)) l.programs.items;
  own : Each (λ rank p. p.rank.0 ≡ rank) l.programs.items;
  size : Each (λ rank p. p.ranks ≡ l.ranks) l.programs.items;
}
