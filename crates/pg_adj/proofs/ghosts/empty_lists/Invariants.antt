use Rattle.std.proofs.Common.{◌≡◌, ◌<◌, ℕ, [], length, slice_index, slice_index_or, vec_capacity}
use Rattle.pg_adj.specs.declared.ghosts.GhostList.{GhostList}
use Rattle.pg_adj.proofs.ghosts.empty_lists.Given as goal

abbrev pub invariant-loop-count : goal.invariant-loop-count
invariant-loop-count l = record {
  each : length l.lists.items ≡ l.count-index;
  list : (r : ℕ) (d : GhostList) → r < l.count-index → (slice_index_or l.lists.items r d).ghosts.items ≡ [];
  room : (r : ℕ) (d : GhostList) → r < l.count-index → vec_capacity (slice_index_or l.lists.items r d).ghosts ≡ slice_index l.counts r;
}
