-- What holds of the answers on a grid: no distance is far, and no edge has ends of one colour.
use Rattle.std.proofs.Common.{◌≡◌, ◌≢◌, ◌∙◌, ℕ, zero, suc, ◌+◌, ◌-◌, ◌*◌, ◌<◌, ◌≤◌, ◌==◌, cond, inl, inr, Option, Some, None, List, [], ◌∷◌, map, length, get_or, ap, sym, subst, refl, arith, All, Contains}
use Rattle.std.specs.Prelude.{count_by}
use Rattle.std.proofs.lemmas.Bool.{ne_eqb}
use Rattle.std.proofs.lemmas.List.Elements.{All-contains, Contains-get_or}
use Rattle.std.proofs.lemmas.List.Sums.{sum_by-cons, sum_by-le}
use Rattle.pg_base.specs.declared.edges.Edge.{Edge}
use Rattle.pg_base.specs.Colouring.{AreProper, colour_in}
use Rattle.pg_base.specs.Distances.{AreLeastArcs}
use Rattle.pg_base.specs.Graph.{Arc, Graph, IsGraph, arcs_of}
use Rattle.pg_base.specs.Walk.{IsWalk, LeastArcs, LeastWeight, weight_of}
use Rattle.pg_base.proofs.ArcLemmas.{arc_is_within, edge_of_arc}
use Rattle.pg_forest.proofs.Shorten.{short_walks_end, walks_shorten}
use Rattle.pg_make.specs.declared.TheConstants.{MAX_GRID_WEIGHT}
use Rattle.pg_top.specs.Summary.{clash_count, max_distance, number_in, number_of}
use Rattle.pg_top.specs.Text.{AreLeastWeights, IsSmallGrid}
use Rattle.pg_top.proofs.TallyLemmas.{same_entry}

-- ---- distances

light_arc : (edges : List Edge) → All (λ (e : Edge). e.w ≤ MAX_GRID_WEIGHT) edges → (a : Arc) → Contains (arcs_of edges) a → a.weight ≤ 4096
light_arc edges light a among =
    let found = edge_of_arc edges a among in
    let small = All-contains (λ (e : Edge). e.w ≤ MAX_GRID_WEIGHT) edges found.0 light found.1 in
    elim found.2 [
      | inl is ↦ subst (λ (x : Arc). x.weight ≤ 4096) (sym is) (omega (arith, small))
      | inr is ↦ subst (λ (x : Arc). x.weight ≤ 4096) (sym is) (omega (arith, small))
    ]

light_walk : (arcs : List Arc) → ((a : Arc) → Contains arcs a → a.weight ≤ 4096) → (s : ℕ) (walk : List Arc) (v : ℕ) → IsWalk arcs s walk v → weight_of walk ≤ length walk * 4096
light_walk arcs light s [] v joins = omega arith
light_walk arcs light s (a ∷ walk) v joins =
    let rest = light_walk arcs light a.to walk v joins.2 in
    let first = light a joins.0 in
    let whole = sum_by-cons (λ (x : Arc). x.weight) a walk in
    omega (arith, rest, first, whole)

module _ (g : Graph) (is : IsGraph g) (small : IsSmallGrid g) where
  short_walk : (v : ℕ) (walk : List Arc) → IsWalk (arcs_of g.edges) 1 walk v → (short : List Arc) × IsWalk (arcs_of g.edges) 1 short v × (length short < g.n)
  short_walk v walk joins =
      let s = walks_shorten (arcs_of g.edges) 1 v walk joins in
      let ends : All (λ (a : Arc). (1 ≤ a.to) × (a.to ≤ g.n)) (arcs_of g.edges) = λ k d l. let w = arc_is_within g is (get_or (arcs_of g.edges) k d) (Contains-get_or (arcs_of g.edges) k d l) in (w.2, w.3) in
      (s.short, s.joins, short_walks_end g.n (arcs_of g.edges) ends 1 v s.short (omega arith) small.some s.joins s.simple)

  few_arcs : (v : ℕ) (a : Option ℕ) → LeastArcs (arcs_of g.edges) 1 v a → number_in a ≤ max_distance
  few_arcs v None least = omega arith
  few_arcs v (Some d) least =
      let s = short_walk v least.walk least.joins in
      omega (arith, least.least s.0 s.1, s.2, is.vertices)

  low_weight : (v : ℕ) (a : Option ℕ) → LeastWeight (arcs_of g.edges) 1 v a → number_in a ≤ max_distance
  low_weight v None least = omega arith
  low_weight v (Some d) least =
      let s = short_walk v least.walk least.joins in
      omega (arith, least.least s.0 s.1, light_walk (arcs_of g.edges) (light_arc g.edges small.light) 1 s.0 v s.1, s.2, is.vertices)

  pub hops_are_short : (hops : List (Option ℕ)) → AreLeastArcs g 1 hops → All (λ a. number_in a ≤ max_distance) hops
  hops_are_short hops least = λ k d l. subst (λ (a : Option ℕ). number_in a ≤ max_distance) (same_entry hops k d l) (few_arcs (k + 1) (get_or hops k None) (least.each k (omega (arith, l, least.count))))

  pub weights_are_low : (weights : List (Option ℕ)) → AreLeastWeights g 1 weights → All (λ a. number_in a ≤ max_distance) weights
  weights_are_low weights least = λ k d l. subst (λ (a : Option ℕ). number_in a ≤ max_distance) (same_entry weights k d l) (low_weight (k + 1) (get_or weights k None) (least.each k (omega (arith, l, least.count))))

-- ---- colours

number_listed : (colours : List ℕ) (k : ℕ) → number_in (get_or (map Some colours) k None) ≡ get_or colours k 0
number_listed [] zero = refl
number_listed [] (suc k) = refl
number_listed (c ∷ colours) zero = refl
number_listed (c ∷ colours) (suc k) = number_listed colours k

apart : (one other : ℕ) → one ≢ other → cond (one == other) 1 0 ≤ 0
apart one other differ = rw (ne_eqb one other differ) (omega arith)

none_alike : (one other : ℕ → ℕ) (edges : List Edge) → ((v : ℕ) → one v ≡ other v) → All (λ (e : Edge). other e.u ≢ other e.v) edges → count_by (λ (e : Edge). one e.u == one e.v) edges ≤ length edges * 0
none_alike one other edges same differ =
    sum_by-le (λ (e : Edge). cond (one e.u == one e.v) 1 0) 0 edges (λ k d l.
    let e = get_or edges k d in
    apart (one e.u) (one e.v) (λ is. differ k d l (sym (same e.u) ∙ (is ∙ same e.v))))

-- Proper colours don't clash.
pub none_clash : (g : Graph) (answers : List (Option ℕ)) (colours : List ℕ) → answers ≡ map Some colours → AreProper g colours → clash_count g.edges answers ≡ 0
none_clash g answers colours listed proper =
    let none : clash_count g.edges (map Some colours) ≤ length g.edges * 0 = none_alike (number_of (map Some colours)) (colour_in colours) g.edges (λ v. number_listed colours (v - 1)) proper.proper.apart in
    let zero_there : clash_count g.edges (map Some colours) ≡ 0 = omega (arith, none) in
    ap (clash_count g.edges) listed ∙ zero_there
