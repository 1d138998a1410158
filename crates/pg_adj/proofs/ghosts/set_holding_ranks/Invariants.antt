use Rattle.std.proofs.Common.{◌≡◌, ◌≢◌, ◌==◌, ◌&&◌, not, ℕ, ◌+◌, ◌<◌, length, slice_index_or}
use Rattle.std.specs.List.{list_any}
use Rattle.pg_base.specs.Keyed.{row_of}
use Rattle.pg_adj.specs.declared.rank_sets.RankSet.{RankSet}
use Rattle.pg_adj.specs.RankSets.{has}
use Rattle.pg_adj.proofs.ghosts.set_holding_ranks.Given as goal

abbrev pub invariant-loop-i : goal.invariant-loop-i
invariant-loop-i g l = record {
  each : length l.sets ≡ length l.fn.sets;
  own : (r k : ℕ) (d : RankSet) → k < length l.fn.sets → (g.D.Distribution.sharing l.dist).owner (k + 1) ≡ l.rank.0 → (g.D.Distribution.sharing l.dist).local (k + 1) < l.i
      → has (slice_index_or l.sets k d) r
      ≡ list_any (λ a. a.home.0 == r && not (a.home.0 == l.rank.0)) (row_of l.own.bounds.items l.own.arcs.items ((g.D.Distribution.sharing l.dist).local (k + 1)));
  others : (k : ℕ) (d : RankSet) → k < length l.fn.sets → (g.D.Distribution.sharing l.dist).owner (k + 1) ≢ l.rank.0 → slice_index_or l.sets k d ≡ slice_index_or l.fn.sets k d;
}
