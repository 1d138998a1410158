use Rattle.std.proofs.Common.{◌≡◌, ◌≤◌}
use Rattle.pg_top.proofs.TallyLemmas.{lowest_below}
use Rattle.pg_top.proofs.tallying.components.Given as goal

abbrev pub invariant-loop-place : goal.invariant-loop-place
invariant-loop-place l = record {
  counted : l.count ≡ lowest_below l.roots l.place;
  few : l.count ≤ l.place;
}
