use Rattle.std.proofs.Common.{◌≡◌, ◌<◌, ℕ, All, length, true, slice_index_or}
use Rattle.pg_adj.specs.RankSets.{has, members}
use Rattle.pg_adj.specs.declared.ghosts.GhostList.{GhostList}
use Rattle.pg_adj.proofs.GhostLists.{ghosts_then, room_of}
use Rattle.pg_adj.proofs.ghosts.push_ghost.Given as goal

abbrev pub invariant-loop-rank : goal.invariant-loop-rank
invariant-loop-rank l = record {
  within : (r : ℕ) → has l.rest r ≡ true → has l.fn.set r ≡ true;
  below : All (λ r. r < length l.fn.lists) (members l.rest);
  pushed : (r : ℕ) (d : GhostList) → r < length l.fn.lists → (slice_index_or l.lists r d).ghosts.items ≡ ghosts_then l.fn.set l.rest l.held l.fn.lists r d;
  room : (r : ℕ) (d : GhostList) → r < length l.fn.lists → room_of l.lists r d ≡ room_of l.fn.lists r d;
}

abbrev pub decreases-loop-rank : goal.decreases-loop-rank
decreases-loop-rank l = length (members l.rest)
