use Rattle.std.proofs.Common.{◌≡◌, ◌<◌, ℕ, length, slice_index}
use Rattle.pg_adj.specs.RankSets.{held_up_to}
use Rattle.pg_adj.proofs.ghosts.ghost_counts.Given as goal

abbrev pub invariant-loop-set : goal.invariant-loop-set
invariant-loop-set l = record {
  each : length l.counts.items ≡ l.ranks;
  held : (r : ℕ) → r < l.ranks → slice_index l.counts.items r ≡ length (held_up_to l.sets r l.set-index);
}
