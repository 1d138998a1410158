-- The greatest degrees among neighbours: there is one list of them, and that of a path.
use Rattle.std.proofs.Common.{◌≡◌, ◌⊎◌, inl, inr, ℕ, zero, suc, ◌+◌, ◌-◌, ◌<◌, ◌≤◌, List, [], ◌∷◌, length, refl, sym, ap, ◌∙◌, subst, arith, Contains}
use Rattle.std.specs.Prelude.{slice_index}
use Rattle.std.proofs.lemmas.Grind.{same_number_lists}
use Rattle.pg_base.proofs.Members.{contains_cases, contains_first, contains_later}
use Rattle.pg_base.specs.Colouring.{AreJoined, degree}
use Rattle.pg_base.specs.declared.edges.Edge.{Edge}
use Rattle.pg_base.specs.Examples.{edge, graph, path_edges}
use Rattle.pg_base.specs.Graph.{Graph}
use Rattle.pg_uses.specs.DegreeLaws.{HasOneOfNeighbours}
use Rattle.pg_uses.specs.Greatest.{IsGreatest}
use Rattle.pg_uses.specs.Neighbours.{AreNeighbourDegrees, IsNeighbourDegree}
use Rattle.pg_uses.proofs.Greatests.{one_greatest}

pub one_list : HasOneOfNeighbours
one_list g xs ys a b =
    same_number_lists xs ys (a.count ∙ sym b.count) (λ k below.
    let first : 1 ≤ k + 1 = omega arith in
    let last : k + 1 ≤ g.n = omega (arith, below, a.count) in
    let place : (k + 1) - 1 ≡ k = omega arith in
    subst (λ i. slice_index xs i ≡ slice_index ys i) place
    (one_greatest (IsNeighbourDegree g (k + 1)) (slice_index xs ((k + 1) - 1)) (slice_index ys ((k + 1) - 1)) (a.greatest (k + 1) first last) (b.greatest (k + 1) first last)))

-- An edge of the path.
path_edge : (e : Edge) → Contains path_edges e → (edge 1 2 5 ≡ e) ⊎ (edge 2 3 2 ≡ e)
path_edge e among = elim (contains_cases (edge 1 2 5) (edge 2 3 2 ∷ []) e among) [
  | inl first ↦ inl first
  | inr rest ↦ elim (contains_cases (edge 2 3 2) [] e rest) [
    | inl second ↦ inr second
    | inr none ↦ absurd (omega (arith, none.1))
  ]
]

-- The two ends of an edge of the path, in any order.
path_ends : (v w : ℕ) → AreJoined path_edges v w → (((v ≡ 1) × (w ≡ 2)) ⊎ ((v ≡ 2) × (w ≡ 1))) ⊎ (((v ≡ 2) × (w ≡ 3)) ⊎ ((v ≡ 3) × (w ≡ 2)))
path_ends v w joined = elim (path_edge joined.edge joined.among) [
  | inl first ↦
      let u : joined.edge.u ≡ 1 = ap (λ (e : Edge). e.u) (sym first) in
      let x : joined.edge.v ≡ 2 = ap (λ (e : Edge). e.v) (sym first) in
      elim joined.ends [ inl e ↦ inl (inl (sym e.0 ∙ u, sym e.1 ∙ x)) | inr e ↦ inl (inr (sym e.1 ∙ x, sym e.0 ∙ u)) ]
  | inr second ↦
      let u : joined.edge.u ≡ 2 = ap (λ (e : Edge). e.u) (sym second) in
      let x : joined.edge.v ≡ 3 = ap (λ (e : Edge). e.v) (sym second) in
      elim joined.ends [ inl e ↦ inr (inl (sym e.0 ∙ u, sym e.1 ∙ x)) | inr e ↦ inr (inr (sym e.1 ∙ x, sym e.0 ∙ u)) ]
]

degree_is : (w k : ℕ) → w ≡ k → degree path_edges w ≡ degree path_edges k
degree_is w k same = ap (degree path_edges) same

bounded : (v y : ℕ) → IsNeighbourDegree (graph 4 path_edges) v y → ((v ≡ 1) × (y ≡ 2)) ⊎ (((v ≡ 2) × (y ≡ 1)) ⊎ ((v ≡ 3) × (y ≡ 2)))
bounded v y d = elim (path_ends v d.neighbour d.joined) [
  | inl left ↦ elim left [
    | inl e ↦ inl (e.0, sym d.has ∙ degree_is d.neighbour 2 e.1)
    | inr e ↦ inr (inl (e.0, sym d.has ∙ degree_is d.neighbour 1 e.1))
  ]
  | inr right ↦ elim right [
    | inl e ↦ inr (inl (e.0, sym d.has ∙ degree_is d.neighbour 3 e.1))
    | inr e ↦ inr (inr (e.0, sym d.has ∙ degree_is d.neighbour 2 e.1))
  ]
]

abbrev IsTop : ℕ → ℕ → Type 0
IsTop v = IsGreatest (IsNeighbourDegree (graph 4 path_edges) v)

-- at most the degree that the vertex's neighbours have
at_most : (v x y : ℕ) → (v ≡ 1 → 2 ≤ x) → (v ≡ 2 → 1 ≤ x) → (v ≡ 3 → 2 ≤ x) → IsNeighbourDegree (graph 4 path_edges) v y → y ≤ x
at_most v x y one two three d = elim (bounded v y d) [
  | inl e ↦ omega (arith, e.1, one e.0)
  | inr rest ↦ elim rest [
    | inl e ↦ omega (arith, e.1, two e.0)
    | inr e ↦ omega (arith, e.1, three e.0)
  ]
]

tops : (v : ℕ) → 1 ≤ v → v ≤ 4 → IsTop v (slice_index (2 ∷ 1 ∷ 2 ∷ 0 ∷ []) (v - 1))
tops zero low high = absurd (omega (arith, low))
tops (suc zero) low high = record {
  bounds = λ y. at_most 1 2 y (λ e. omega arith) (λ e. absurd (omega (arith, e))) (λ e. absurd (omega (arith, e)));
  reached = inr (record { neighbour = 2; joined = record { edge = edge 1 2 5; among = contains_first (edge 1 2 5) (edge 2 3 2 ∷ []); ends = inl (refl, refl) }; has = refl });
}
tops (suc (suc zero)) low high = record {
  bounds = λ y. at_most 2 1 y (λ e. absurd (omega (arith, e))) (λ e. omega arith) (λ e. absurd (omega (arith, e)));
  reached = inr (record { neighbour = 1; joined = record { edge = edge 1 2 5; among = contains_first (edge 1 2 5) (edge 2 3 2 ∷ []); ends = inr (refl, refl) }; has = refl });
}
tops (suc (suc (suc zero))) low high = record {
  bounds = λ y. at_most 3 2 y (λ e. absurd (omega (arith, e))) (λ e. absurd (omega (arith, e))) (λ e. omega arith);
  reached = inr (record {
    neighbour = 2;
    joined = record { edge = edge 2 3 2; among = contains_later (edge 1 2 5) (edge 2 3 2 ∷ []) (edge 2 3 2) (contains_first (edge 2 3 2) []); ends = inr (refl, refl) };
    has = refl;
  });
}
tops (suc (suc (suc (suc zero)))) low high = record {
  bounds = λ y. at_most 4 0 y (λ e. absurd (omega (arith, e))) (λ e. absurd (omega (arith, e))) (λ e. absurd (omega (arith, e)));
  reached = inl refl;
}
tops (suc (suc (suc (suc (suc v))))) low high = absurd (omega (arith, high))

pub of_path : AreNeighbourDegrees (graph 4 path_edges) (2 ∷ 1 ∷ 2 ∷ 0 ∷ [])
of_path = record { count = refl; greatest = tops }
