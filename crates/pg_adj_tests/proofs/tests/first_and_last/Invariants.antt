use Rattle.std.proofs.Common.{◌≡◌, ◌+◌, ◌<◌, All, vec_len}
use Rattle.pg_adj_tests.proofs.tests.first_and_last.Given as goal

abbrev pub invariant-loop-v : goal.invariant-loop-v
invariant-loop-v l = record {
  each : vec_len l.owners + 1 ≡ l.v;
  ranks : All (λ owner. owner < l.ranks) l.owners.items;
}
