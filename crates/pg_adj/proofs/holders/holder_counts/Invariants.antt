use Rattle.std.proofs.Common.{◌≡◌, ◌<◌, ℕ, length, slice_index}
use Rattle.pg_adj.proofs.HolderCounts.{holders_to}
use Rattle.pg_adj.proofs.holders.holder_counts.Given as goal

abbrev pub invariant-loop-k : goal.invariant-loop-k
invariant-loop-k g l = record {
  each : length l.counts.items ≡ (g.D.Distribution.sharing l.dist).ranks;
  held : (r : ℕ) → r < (g.D.Distribution.sharing l.dist).ranks → slice_index l.counts.items r ≡ holders_to l.sets (g.D.Distribution.sharing l.dist).owner r l.k;
}
