use Rattle.std.proofs.Common.{◌≡◌, ◌==◌, ◌&&◌, not, ℕ, ◌+◌, ◌<◌, length, slice_index_or}
use Rattle.std.specs.List.{list_any}
use Rattle.pg_adj.specs.declared.rank_sets.RankSet.{RankSet}
use Rattle.pg_adj.specs.RankSets.{has}
use Rattle.pg_adj.specs.Division.{arcs_at}
use Rattle.pg_adj.proofs.ghosts.holding_ranks.Given as goal

abbrev pub invariant-loop-rank : goal.invariant-loop-rank
invariant-loop-rank g l = record {
  each : length l.sets.items ≡ (g.D.Distribution.sharing l.dist).n;
  sets : (r k : ℕ) (d : RankSet) → k < (g.D.Distribution.sharing l.dist).n → (g.D.Distribution.sharing l.dist).owner (k + 1) < l.rank
      → has (slice_index_or l.sets.items k d) r ≡ list_any (λ a. a.home.0 == r && not (a.home.0 == (g.D.Distribution.sharing l.dist).owner (k + 1)))
      (arcs_at (g.D.Distribution.sharing l.dist) l.graph.edges (k + 1));
}
