-- Arcs that all have equal mirrors are those of the edges that they tell.
use Rattle.std.proofs.Common.{◌≡◌, ◌≢◌, ℕ, zero, suc, ◌*◌, ◌<◌, ◌≤◌, ◌∙◌, Option, None, List, [], ◌∷◌, length, get_or, inl, inr, ⊎_elim, refl, sym, ap, subst, arith, All, AllPairs, Contains}
use Rattle.std.specs.List.{remove}
use Rattle.std.proofs.lemmas.Bool.{cases_lt}
use Rattle.std.proofs.lemmas.List.Elements.{All-contains, All-head, All-tail, Contains-get_or}
use Rattle.std.proofs.lemmas.List.Sorted.{IsPermutation-remove, Contains-permutation, length_permutation}
use Rattle.pg_base.specs.declared.edges.Edge.{Edge}
use Rattle.pg_base.specs.Graph.{Arc, Precedes, forward, backward, arcs_of}
use Rattle.pg_base.proofs.Members.{AllPairs-cons, contains_cases}
use Rattle.pg_base.proofs.ArcLemmas.{IsDirectionOf, edge_of_arc, arcs_of_edge}
use Rattle.pg_metis.specs.Mirrors.{AreLowerEdges, edge_back, first_vertex, turned}
use Rattle.pg_metis.specs.declared.pairing.NamedArc.{NamedArc}
use Rattle.pg_metis.specs.Pairing.{AreEdgesOf, AreNamed, IsNamed, arcs_named, edge_along}
use Rattle.pg_metis.proofs.Matching.{same_edge}
use Rattle.pg_metis.proofs.MirrorLemmas.{all_from_no_vertex}
use Rattle.pg_metis.proofs.Settled.{edges_are, edges_positive}

module _ {X : Type 0} where
  tail_apart : (x : X) (xs : List X) → AllPairs (λ y z. y ≢ z) (x ∷ xs) → AllPairs (λ y z. y ≢ z) xs
  tail_apart x xs apart i j d below within = apart (suc i) (suc j) d (omega arith) (omega arith)

  -- Elements that are all different, and all in another list, are no more than that one has.
  pub no_more : (xs ys : List X) → AllPairs (λ y z. y ≢ z) xs → All (Contains ys) xs → length xs ≤ length ys
  no_more [] ys apart among = omega arith
  no_more (x ∷ xs) ys apart among =
      let found = All-head (Contains ys) x xs among in
      let rest : List X = remove ys found.0 in
      let moved = IsPermutation-remove ys found.0 x found.1 (sym found.2) in
      let size = length_permutation ys (x ∷ rest) moved in
      let others : All (Contains rest) xs =
      λ k d within. (let z : X = get_or xs k d in
      ⊎_elim
      (λ same. absurd (apart zero (suc k) d (omega arith) (omega arith) same))
      (λ later. later)
      (contains_cases x rest z (Contains-permutation ys (x ∷ rest) z moved (All-tail (Contains ys) x xs among k d within)))) in
      let less = no_more xs rest (tail_apart x xs apart) others in
      omega arith

length-arcs_of : (edges : List Edge) → length (arcs_of edges) ≡ 2 * length edges
length-arcs_of [] = refl
length-arcs_of (e ∷ edges) = let h = length-arcs_of edges in omega arith

-- The directions of two edges, of which one precedes the other, are different arcs.
other_direction : (d e : Edge) (a : Arc) → d.u < d.v → e.u < e.v → Precedes d e → IsDirectionOf a d → IsDirectionOf a e → ⊥
other_direction d e a rise rise' before (inl is) (inl is') =
    let u : d.u ≡ e.u = ap (λ (x : Arc). x.from) (sym is ∙ is') in
    let v : d.v ≡ e.v = ap (λ (x : Arc). x.to) (sym is ∙ is') in
    let less = before.second u in omega arith
other_direction d e a rise rise' before (inl is) (inr is') =
    let u : d.u ≡ e.v = ap (λ (x : Arc). x.from) (sym is ∙ is') in
    let v : d.v ≡ e.u = ap (λ (x : Arc). x.to) (sym is ∙ is') in omega arith
other_direction d e a rise rise' before (inr is) (inl is') =
    let v : d.v ≡ e.u = ap (λ (x : Arc). x.from) (sym is ∙ is') in
    let u : d.u ≡ e.v = ap (λ (x : Arc). x.to) (sym is ∙ is') in omega arith
other_direction d e a rise rise' before (inr is) (inr is') =
    let v : d.v ≡ e.v = ap (λ (x : Arc). x.from) (sym is ∙ is') in
    let u : d.u ≡ e.u = ap (λ (x : Arc). x.to) (sym is ∙ is') in
    let less = before.second u in omega arith

not_later : (e : Edge) (edges : List Edge) (a : Arc) → AllPairs Precedes (e ∷ edges) → All (λ d. d.u < d.v) (e ∷ edges) → IsDirectionOf a e → Contains (arcs_of edges) a → ⊥
not_later e edges a ascending rising is among =
    let found = edge_of_arc edges a among in
    let d : Edge = found.0 in
    let place = found.1 in
    let before : Precedes e (get_or edges place.0 d) = ascending zero (suc place.0) d (omega arith) (let within = place.1 in omega arith) in
    other_direction e d a (All-head (λ (x : Edge). x.u < x.v) e edges rising) (All-contains (λ (x : Edge). x.u < x.v) edges d (All-tail (λ (x : Edge). x.u < x.v) e edges rising) place)
    (subst (λ (x : Edge). Precedes e x) place.2 before) is found.2

later_ascend : (e : Edge) (edges : List Edge) → AllPairs Precedes (e ∷ edges) → AllPairs Precedes edges
later_ascend e edges ascending i j d below within = ascending (suc i) (suc j) d (omega arith) (omega arith)

arcs_apart : (edges : List Edge) → AllPairs Precedes edges → All (λ e. e.u < e.v) edges → AllPairs (λ a b. a ≢ b) (arcs_of edges)
arcs_apart [] ascending rising = λ i j d below within. absurd (omega arith)
arcs_apart (e ∷ edges) ascending rising =
    let rest : List Arc = arcs_of edges in
    let rise = All-head (λ (x : Edge). x.u < x.v) e edges rising in
    let back_apart : All (λ b. backward e ≢ b) rest = λ k d within same. not_later e edges (get_or rest k d) ascending rising (inr (sym same)) (Contains-get_or rest k d within) in
    let forth_apart : All (λ b. forward e ≢ b) (backward e ∷ rest) = λ k d within same.
    (⊎_elim
    (λ back. let u : e.u ≡ e.v = ap (λ (a : Arc). a.from) (same ∙ sym back) in absurd (omega arith))
    (λ later. not_later e edges (get_or (backward e ∷ rest) k d) ascending rising (inl (sym same)) later)
    (contains_cases (backward e) rest (get_or (backward e ∷ rest) k d) (Contains-get_or (backward e ∷ rest) k d within))) in
    AllPairs-cons (λ a b. a ≢ b) (forward e) (backward e ∷ rest) forth_apart
    (AllPairs-cons (λ a b. a ≢ b) (backward e) rest back_apart (arcs_apart edges (later_ascend e edges ascending) (All-tail (λ (x : Edge). x.u < x.v) e edges rising)))

module _ (n : ℕ) (arcs : List Arc) (edges : List Edge) (named : AreNamed n arcs) (lower : AreLowerEdges arcs edges) (mirrored : All (λ a. Contains arcs (turned a)) arcs) where
  directions : (e : Edge) → Contains edges e → Contains arcs (forward e) × Contains arcs (backward e)
  directions e among =
      let back = All-contains (λ (x : Edge). Contains arcs (backward x)) edges e lower.told among in
      (All-contains (λ (a : Arc). Contains arcs (turned a)) arcs (backward e) mirrored back, back)

  -- Each arc is a direction of an edge.
  edge_of : (a : Arc) → Contains arcs a → (e : Edge) × Contains edges e × IsDirectionOf a e × (e ≡ edge_along a)
  edge_of a among =
      let is = All-contains (IsNamed n) arcs a named.within among in
      let other = is.other in
      elim (cases_lt a.to a.from) [
        | inl lesser ↦ (let there = All-contains (λ (b : Arc). b.to < b.from → Contains edges (edge_back b)) arcs a lower.each among lesser in
            (edge_back a, there, inr refl, same_edge (edge_back a) (edge_along a) (omega arith) (omega arith) refl))
        | inr least ↦ (let greater : a.from < a.to = omega arith in
            let mirror = All-contains (λ (b : Arc). Contains arcs (turned b)) arcs a mirrored among in
            let there = All-contains (λ (b : Arc). b.to < b.from → Contains edges (edge_back b)) arcs (turned a) lower.each mirror greater in
            (edge_back (turned a), there, inl refl, same_edge (edge_back (turned a)) (edge_along a) (omega arith) (omega arith) refl))
      ]

  among_edges : All (Contains (arcs_of edges)) arcs
  among_edges k d within =
      let a : Arc = get_or arcs k d in
      let found = edge_of a (Contains-get_or arcs k d within) in
      let both = arcs_of_edge edges found.0 found.1 in
      ⊎_elim
      (λ is. subst (Contains (arcs_of edges)) (sym is) both.0)
      (λ is. subst (Contains (arcs_of edges)) (sym is) both.1)
      found.2

  among_arcs : All (Contains arcs) (arcs_of edges)
  among_arcs k d within =
      let a : Arc = get_or (arcs_of edges) k d in
      let found = edge_of_arc edges a (Contains-get_or (arcs_of edges) k d within) in
      let both = directions found.0 found.1 in
      ⊎_elim
      (λ is. subst (Contains arcs) (sym is) both.0)
      (λ is. subst (Contains arcs) (sym is) both.1)
      found.2

  pub are_edges_of : AreEdgesOf n arcs edges
  are_edges_of = record {
    within = edges_are n arcs edges named lower;
    positive = edges_positive n arcs edges named lower;
    ascending = lower.ascending;
    each = λ k d within. let found = edge_of (get_or arcs k d) (Contains-get_or arcs k d within) in subst (Contains edges) found.3 found.1;
    directions = λ k d within. directions (get_or edges k d) (Contains-get_or edges k d within);
    count =
        let fewer = no_more arcs (arcs_of edges) (λ i j d below within same. named.once i j d below within (ap (λ (a : Arc). a.from) same) (ap (λ (a : Arc). a.to) same)) among_edges in
        let more = no_more (arcs_of edges) arcs (arcs_apart edges lower.ascending lower.rising) among_arcs in
        omega (arith, length-arcs_of edges);
  }

pub edges_from_none : (n : ℕ) (arcs : List Arc) (edges : List Edge) → AreNamed n arcs → AreLowerEdges arcs edges → first_vertex arcs ≡ None → AreEdgesOf n arcs edges
edges_from_none n arcs edges named lower none = are_edges_of n arcs edges named lower (all_from_no_vertex arcs none)

-- The same where the arcs were read twice.
pub edges_read : (n : ℕ) (xs ys zs : List NamedArc) (edges : List Edge) (found : Option ℕ) → ys ≡ xs → zs ≡ xs → AreNamed n (arcs_named xs) → AreLowerEdges (arcs_named ys) edges → first_vertex (arcs_named zs) ≡ found → found ≡ None
    → AreEdgesOf n (arcs_named xs) edges
edges_read n xs ys zs edges found first second named lower is none =
    edges_from_none n (arcs_named xs) edges named (subst (λ (ls : List NamedArc). AreLowerEdges (arcs_named ls) edges) first lower)
    (subst (λ (ls : List NamedArc). first_vertex (arcs_named ls) ≡ None) second (is ∙ none))
