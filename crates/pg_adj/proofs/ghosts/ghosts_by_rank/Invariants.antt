use Rattle.std.proofs.Common.{◌≡◌, ◌<◌, ℕ, length, map, slice_index_or}
use Rattle.pg_adj.specs.Division.{ghost_of}
use Rattle.pg_adj.specs.RankSets.{held_up_to}
use Rattle.pg_adj.specs.declared.ghosts.GhostList.{GhostList}
use Rattle.pg_adj.proofs.GhostLists.{room_of}
use Rattle.pg_adj.proofs.ghosts.ghosts_by_rank.Given as goal

abbrev pub invariant-loop-k : goal.invariant-loop-k
invariant-loop-k g l = record {
  count : length l.lists.items ≡ (g.D.Distribution.sharing l.dist).ranks;
  list : (r : ℕ) (d : GhostList) → r < (g.D.Distribution.sharing l.dist).ranks
      → (slice_index_or l.lists.items r d).ghosts.items ≡ map (ghost_of (g.D.Distribution.sharing l.dist).owner (g.D.Distribution.sharing l.dist).local) (held_up_to l.sets r l.k);
  room : (r : ℕ) (d : GhostList) → r < (g.D.Distribution.sharing l.dist).ranks → room_of l.lists.items r d ≡ length (held_up_to l.sets r (length l.sets));
}
