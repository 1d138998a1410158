use Rattle.std.proofs.Common.{◌≡◌, ℕ, ◌+◌, ◌<◌, ◌==◌, ◌&&◌, not, List, All, length, get_or, sym, ap, subst, ◌∙◌, arith}
use Rattle.std.specs.List.{list_any}
use Rattle.pg_base.specs.declared.edges.Edge.{Edge}
use Rattle.pg_base.specs.Graph.{IsEdge}
use Rattle.pg_base.proofs.KeyedRows.{kept_whole}
use Rattle.pg_adj.specs.declared.rows.ArcRows.{ArcRows}
use Rattle.pg_adj.specs.declared.rank_sets.RankSet.{RankSet}
use Rattle.pg_dist.specs.Sharing.{Sharing, IsSharing}
use Rattle.pg_adj.specs.Division.{AreRows, arcs_at}
use Rattle.pg_adj.specs.RankSets.{has}
use Rattle.pg_adj.proofs.RankSets.{members_within}
use Rattle.pg_adj.proofs.Homes.{abroad_is_home, homes_few, no_home}
use Rattle.pg_adj.proofs.HomeSets.{sets_more}
use Rattle.pg_adj.proofs.ghosts.holding_ranks.Goals as goal

pub set_holding_ranks-requires-clause-homes : goal.set_holding_ranks-requires-clause-homes
set_holding_ranks-requires-clause-homes g c =
    let s : Sharing = g.D.Distribution.sharing c.args.dist.now in
    let laws : IsSharing s = g.met.D.Distribution.laws c.args.dist.now in
    let edges : List Edge = c.args.graph.now.edges in
    let within : All (IsEdge s.n) edges = subst (λ (n : ℕ). All (IsEdge n) edges) c.requires.n c.n.ensures.graph.within in
    let own : ArcRows = c.index-rows-rank.result in
    let rows : AreRows (λ i. arcs_at s edges (s.global c.loop-rank.rank i)) (s.count c.loop-rank.rank) own.bounds.items own.arcs.items =
    subst (λ (x : ArcRows). AreRows (λ i. arcs_at s edges (s.global c.loop-rank.rank i)) (s.count c.loop-rank.rank) x.bounds.items x.arcs.items) (sym c.index-rows-rank.is)
    (c.requires.row c.loop-rank.rank own (omega (arith, c.requires.count))) in
    homes_few s laws edges within c.requires.few c.loop-rank.rank own.bounds.items own.arcs.items rows

pub loop-rank-preserved : goal.loop-rank-preserved
loop-rank-preserved g c =
    let s : Sharing = g.D.Distribution.sharing c.args.dist.now in
    let laws : IsSharing s = g.met.D.Distribution.laws c.args.dist.now in
    let edges : List Edge = c.args.graph.now.edges in
    let own : ArcRows = c.index-rows-rank.result in
    let rows : AreRows (λ i. arcs_at s edges (s.global c.loop-rank.rank i)) (s.count c.loop-rank.rank) own.bounds.items own.arcs.items =
    subst (λ (x : ArcRows). AreRows (λ i. arcs_at s edges (s.global c.loop-rank.rank i)) (s.count c.loop-rank.rank) x.bounds.items x.arcs.items) (sym c.index-rows-rank.is)
    (c.requires.row c.loop-rank.rank own (omega (arith, c.requires.count))) in
    let old : List RankSet = c.loop-rank.sets.items in
    let new : List RankSet = c.set_holding_ranks.new.sets in
    let whole : length new ≡ c.loop-rank.sets.len = omega (arith, c.set_holding_ranks.ensures.each, c.deref_mut.ensures.len) in
    record {
      each = kept_whole (λ (sets : List RankSet). length sets ≡ s.n) new _ c.loop-rank.sets.len whole
          (omega (arith, c.set_holding_ranks.ensures.each, ap length c.deref_mut.ensures.value, c.loop-rank.invariant.each));
      sets = kept_whole (λ (sets : List RankSet). (r k : ℕ) (d : RankSet) → k < s.n → s.owner (k + 1) < c.loop-rank.rank + 1
          → has (get_or sets k d) r ≡ list_any (λ a. a.home.0 == r && not (a.home.0 == s.owner (k + 1))) (arcs_at s edges (k + 1))) new _ c.loop-rank.sets.len whole
          (sets_more s laws edges c.loop-rank.rank own.bounds.items own.arcs.items rows old c.deref_mut.result.now new c.loop-rank.invariant.each c.deref_mut.ensures.value
          c.loop-rank.invariant.sets c.set_holding_ranks.ensures.own c.set_holding_ranks.ensures.others);
    }

pub returns-clause-ranks : goal.returns-clause-ranks
returns-clause-ranks g c =
    let s : Sharing = g.D.Distribution.sharing c.args.dist.now in
    let laws : IsSharing s = g.met.D.Distribution.laws c.args.dist.now in
    let edges : List Edge = c.args.graph.now.edges in
    let within : All (IsEdge s.n) edges = subst (λ (n : ℕ). All (IsEdge n) edges) c.requires.n c.n.ensures.graph.within in
    λ k d l.
    let inside : k < s.n = omega (arith, c.loop-rank.invariant.each) in
    let owner = laws.owner_is_rank (k + 1) (omega arith) (omega arith) in
    members_within (get_or c.loop-rank.sets.items k d) s.ranks
    (λ r past. c.loop-rank.invariant.sets r k d inside (omega (arith, c.loop-rank-test.false, c.requires.count)) ∙ no_home s laws edges within (k + 1) (s.owner (k + 1)) r past)

pub returns-clause-sets : goal.returns-clause-sets
returns-clause-sets g c =
    let s : Sharing = g.D.Distribution.sharing c.args.dist.now in
    let laws : IsSharing s = g.met.D.Distribution.laws c.args.dist.now in
    let edges : List Edge = c.args.graph.now.edges in
    let within : All (IsEdge s.n) edges = subst (λ (n : ℕ). All (IsEdge n) edges) c.requires.n c.n.ensures.graph.within in
    λ r k d e rank inside.
    let owner = laws.owner_is_rank (k + 1) (omega arith) (omega arith) in
    c.loop-rank.invariant.sets r k e inside (omega (arith, c.loop-rank-test.false, c.requires.count))
    ∙ sym (abroad_is_home s laws edges within r rank (get_or c.args.rows.now r d).bounds.items (get_or c.args.rows.now r d).arcs.items (c.requires.row r d rank) (k + 1))
