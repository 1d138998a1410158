-- What follows for one rank's share from the laws of distributions.
use Rattle.std.proofs.Common.{◌≡◌, ℕ, ◌+◌, ◌-◌, ◌<◌, ◌≤◌, List, [], ◌∷◌, ◌++◌, length, get_or, All, sym, ap, subst, refl, ◌∙◌, inl, inr, arith, zero, suc}
use Rattle.std.proofs.lemmas.Bool.{cases_lt, cases_eq, eq-eqb, ne_eqb}
use Rattle.std.proofs.lemmas.List.{get_or_append_left, get_or_push, get_or_default}
use Rattle.std.proofs.lemmas.List.Edits.{get_or-between, length-between}
use Rattle.std.proofs.lemmas.List.Elements.{All-map, All-weaker}
use Rattle.pg_base.specs.declared.edges.Edge.{Edge}
use Rattle.pg_base.specs.Graph.{IsEdge}
use Rattle.pg_adj.specs.declared.arcs.Arc.{Arc}
use Rattle.pg_adj.specs.Portions.{IsVertex}
use Rattle.pg_base.specs.Keyed.{items_of}
use Rattle.pg_adj.specs.Incidence.{incidences}
use Rattle.pg_dist.specs.Sharing.{Sharing, IsSharing}
use Rattle.pg_adj.specs.Division.{AreRows, arc_at, arcs_at, other_end}
use Rattle.pg_adj.proofs.RowsMore.{row-within}

-- a rank's vertices ascend from 1 on
above_place : (s : Sharing) → IsSharing s → (r i : ℕ) → r < s.ranks → i < s.count r → i < s.global r i
above_place s laws r zero rank l = laws.global_first r 0 rank l
above_place s laws r (suc i) rank l =
    let before = above_place s laws r i rank (omega arith) in
    let step = laws.global_ascends r i (suc i) rank (omega arith) l in
    omega arith

pub count-le : (s : Sharing) → IsSharing s → (r count : ℕ) → r < s.ranks → count ≡ s.count r → count ≤ s.n
count-le s laws r zero rank e = omega arith
count-le s laws r (suc i) rank e =
    let l : i < s.count r = omega arith in
    omega (arith, above_place s laws r i rank l, laws.global_last r i rank l)

pub own_within : (s : Sharing) → IsSharing s → (r : ℕ) (vertices : List ℕ) → r < s.ranks → length vertices ≡ s.count r
    → ((i : ℕ) → i < s.count r → get_or vertices i 0 ≡ s.global r i) → All (IsVertex s.n) vertices
own_within s laws r vertices rank count each = λ i d l.
    let l' : i < s.count r = omega arith in
    let same : get_or vertices i d ≡ s.global r i = get_or_default vertices i d 0 l ∙ each i l' in
    record { first = omega (arith, laws.global_first r i rank l'); last = omega (arith, laws.global_last r i rank l') }

-- what holds in every row holds of every item
pub in_first_rows : {X : Type 0} (P : X → Type 0) (rows : ℕ → List X) (count : ℕ) (bounds : List ℕ) (items : List X) → AreRows rows count bounds items → ((i : ℕ) → i < count → All P (rows i))
    → (m k : ℕ) (d : X) → m ≤ count → k < get_or bounds m 0 → P (get_or items k d)
in_first_rows P rows count bounds items h each zero k d l below = absurd (omega (arith, h.first))
in_first_rows {X} P rows count bounds items h each (suc m) k d l below = elim (cases_lt k (get_or bounds m 0)) [
  | inl less ↦ in_first_rows P rows count bounds items h each m k d (omega arith) less
  | inr least ↦
      let next : suc m ≡ m + 1 = omega arith in
      let below' : k < get_or bounds (m + 1) 0 = subst (λ (i : ℕ). k < get_or bounds i 0) next below in
      let within = h.bounded.within (m + 1) (omega arith) in
      let size = length-between items (get_or bounds m 0) (get_or bounds (m + 1) 0) (omega arith) in
      let row = h.row m (omega arith) in
      let inside : k - get_or bounds m 0 < length (rows m) = omega (arith, ap length row) in
      let holds : P (get_or (rows m) (k - get_or bounds m 0) d) = each m (omega arith) (k - get_or bounds m 0) d inside in
      let place : get_or bounds m 0 + (k - get_or bounds m 0) ≡ k = omega arith in
      let read : get_or (rows m) (k - get_or bounds m 0) d ≡ get_or items k d =
      ap (λ (xs : List X). get_or xs (k - get_or bounds m 0) d) (sym row)
      ∙ (get_or-between items (get_or bounds m 0) (get_or bounds (m + 1) 0) (k - get_or bounds m 0) d (omega arith)
      ∙ ap (λ (i : ℕ). get_or items i d) place) in
      subst P read holds
]

pub all_from_rows : {X : Type 0} (P : X → Type 0) (rows : ℕ → List X) (count : ℕ) (bounds : List ℕ) (items : List X) → AreRows rows count bounds items → ((i : ℕ) → i < count → All P (rows i)) → All P items
all_from_rows P rows count bounds items h each = λ k d l. in_first_rows P rows count bounds items h each count k d (omega arith) (omega (arith, h.last))

-- the other end of an edge is a vertex
pub end_within : (n : ℕ) (e : Edge) (v : ℕ) → IsEdge n e → IsVertex n (other_end e v)
end_within n e v h = elim (cases_eq e.u v) [
  | inl same ↦ rw (eq-eqb e.u v same) (record { first = omega (arith, h.first, h.ascends); last = h.last })
  | inr other ↦ rw (ne_eqb e.u v other) (record { first = h.first; last = omega (arith, h.ascends, h.last) })
]

-- what holds of the arc of every edge holds of all arcs at a vertex
pub all_arcs_at : (P : Arc → Type 0) (s : Sharing) (edges : List Edge) (v : ℕ) → ((k : ℕ) → k < length edges → P (arc_at s.owner s.local edges v k)) → All P (arcs_at s edges v)
all_arcs_at P s edges v h =
    All-map P (arc_at s.owner s.local edges v) (items_of (incidences 0 edges) v)
    (All-weaker (λ k. k < length edges) (λ k. P (arc_at s.owner s.local edges v k)) h (items_of (incidences 0 edges) v) (row-within edges v (items_of (incidences 0 edges) v) refl))

-- one more in a list of which each has its fact
pub each_push : {X : Type 0} (Q : ℕ → X → Type 0) (xs ys : List X) (x : X) (n : ℕ) → length xs ≡ n → ((r : ℕ) (d : X) → r < n → Q r (get_or xs r d)) → Q n x → ys ≡ xs ++ x ∷ []
    → (r : ℕ) (d : X) → r < n + 1 → Q r (get_or ys r d)
each_push {X} Q xs ys x n size each last put = λ r d l. elim (cases_lt r n) [
  | inl less ↦ subst (Q r) (sym (get_or_append_left xs (x ∷ []) d r (omega arith)) ∙ ap (λ (zs : List X). get_or zs r d) (sym put)) (each r d less)
  | inr least ↦
      let at : r ≡ n = omega arith in
      subst (λ (i : ℕ). Q i (get_or ys i d)) (sym at) (subst (Q n) (sym (get_or_push xs x d n size) ∙ ap (λ (zs : List X). get_or zs n d) (sym put)) last)
]

-- the arc of an edge knows its other end's owner
pub homes_known : (s : Sharing) (edges : List Edge) (vertices bounds : List ℕ) (arcs : List Arc)
    → AreRows (λ i. arcs_at s edges (get_or vertices i 0)) (length vertices) bounds arcs → All (λ a. a.home.0 ≡ s.owner a.to.0) arcs
homes_known s edges vertices bounds arcs rows =
    all_from_rows (λ a. a.home.0 ≡ s.owner a.to.0) (λ i. arcs_at s edges (get_or vertices i 0)) (length vertices) bounds arcs rows
    (λ i l. all_arcs_at (λ a. a.home.0 ≡ s.owner a.to.0) s edges (get_or vertices i 0) (λ k m. refl))

-- the same rows by other names
pub rows_same : {X : Type 0} (rows rows' : ℕ → List X) (count : ℕ) (bounds : List ℕ) (items : List X) → AreRows rows count bounds items → ((i : ℕ) → i < count → rows i ≡ rows' i) → AreRows rows' count bounds items
rows_same rows rows' count bounds items h same = record {
  bounded = h.bounded;
  first = h.first;
  last = h.last;
  row = λ i l. h.row i l ∙ same i l;
}
