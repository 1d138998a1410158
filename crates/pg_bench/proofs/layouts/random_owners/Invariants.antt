use Rattle.std.proofs.Common.{◌≡◌, ◌<◌, All, vec_len}
use Rattle.pg_bench.proofs.layouts.random_owners.Given as goal

abbrev pub invariant-loop : goal.invariant-loop
invariant-loop l = record {
  each : vec_len l.owners ≡ l.counter;
  ranks : All (λ owner. owner < l.ranks) l.owners.items;
}
