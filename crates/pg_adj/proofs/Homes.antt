-- Each edge gives two arcs: the ranks of which an arc leads to a vertex are the homes of the vertex's own arcs.
use Rattle.std.proofs.Common.{◌≡◌, ◌≢◌, ◌⊎◌, ℕ, ◌+◌, ◌-◌, ◌<◌, ◌≤◌, Bool, true, false, cond, eqb, not, ◌&&◌, ◌||◌, List, [], ◌∷◌, length, get_or, map, All, sym, ap, subst, refl, ◌∙◌, inl, inr, ⊎_elim, arith, zero, suc}
use Rattle.std.specs.List.{list_any}
use Rattle.std.proofs.lemmas.Bool.{cases_eq, eq-eqb, ne_eqb, eqb-true, eqb-false, and_parts, not-true}
use Rattle.std.proofs.lemmas.List.Edits.{length-between, get_or-between}
use Rattle.std.proofs.lemmas.List.Elements.{All-nil, All-cons, All-map, All-weaker}
use Rattle.std.proofs.lemmas.List.Folds.{Any-from_list_any, list_any_at, list_any_none}
use Rattle.pg_base.specs.declared.edges.Edge.{Edge}
use Rattle.pg_base.specs.Graph.{IsEdge}
use Rattle.pg_base.specs.Keyed.{row_of, items_of}
use Rattle.pg_adj.specs.declared.arcs.Arc.{Arc}
use Rattle.pg_adj.specs.Incidence.{incidences}
use Rattle.pg_dist.specs.Sharing.{Sharing, IsSharing}
use Rattle.pg_adj.specs.Division.{AreRows, arc_at, arcs_at, other_end, no_edge, leads_abroad}
use Rattle.pg_adj.proofs.Sharings.{all_from_rows, all_arcs_at, end_within}

-- The vertex is an end of the edge.
abbrev IsEndOf : Edge → ℕ → Type 0
IsEndOf e v = (e.u ≡ v) ⊎ (e.v ≡ v)

-- Of the edges from j on the edge k is at the vertex.
record IsAt (j : ℕ) (edges : List Edge) (v k : ℕ) : Type 0 where
  pub past : j ≤ k
  pub below : k < j + length edges
  pub end : IsEndOf (get_or edges (k - j) no_edge) v

first_at : (j : ℕ) (e : Edge) (edges : List Edge) (v : ℕ) → IsEndOf e v → IsAt j (e ∷ edges) v j
first_at j e edges v end =
    let none : 0 ≡ j - j = omega arith in
    record { past = omega arith; below = omega arith; end = subst (λ (i : ℕ). IsEndOf (get_or (e ∷ edges) i no_edge) v) none end }

later_at : (j : ℕ) (e : Edge) (edges : List Edge) (v k : ℕ) → IsAt (j + 1) edges v k → IsAt j (e ∷ edges) v k
later_at j e edges v k h =
    let next : suc (k - (j + 1)) ≡ k - j = omega (arith, h.past) in
    record { past = omega (arith, h.past); below = omega (arith, h.below); end = subst (λ (i : ℕ). IsEndOf (get_or (e ∷ edges) i no_edge) v) next h.end }

-- the edges that a vertex has are at it
edges_at : (j : ℕ) (edges : List Edge) (v : ℕ) → All (IsAt j edges v) (items_of (incidences j edges) v)
edges_at j [] v = All-nil (IsAt j [] v)
edges_at j (e ∷ edges) v =
    let P : ℕ → Type 0 = IsAt j (e ∷ edges) v in
    let rest : All P (items_of (incidences (j + 1) edges) v) = All-weaker (IsAt (j + 1) edges v) P (later_at j e edges v) (items_of (incidences (j + 1) edges) v) (edges_at (j + 1) edges v) in
    let second : All P (items_of (record { key = e.v; item = j } ∷ incidences (j + 1) edges) v) = elim (cases_eq e.v v) [
      | inl same ↦ rw (eq-eqb e.v v same) (All-cons P j (items_of (incidences (j + 1) edges) v) (first_at j e edges v (inr same)) rest)
      | inr other ↦ rw (ne_eqb e.v v other) rest
    ] in
    elim (cases_eq e.u v) [
      | inl same ↦ rw (eq-eqb e.u v same) (All-cons P j (items_of (record { key = e.v; item = j } ∷ incidences (j + 1) edges) v) (first_at j e edges v (inl same)) second)
      | inr other ↦ rw (ne_eqb e.u v other) second
    ]

-- what holds of the arc of every edge at a vertex holds of all its arcs
arcs_of_edges : (P : Arc → Type 0) (s : Sharing) (edges : List Edge) (v : ℕ)
    → ((k : ℕ) → k < length edges → IsEndOf (get_or edges k no_edge) v → P (arc_at s.owner s.local edges v k)) → All P (arcs_at s edges v)
arcs_of_edges P s edges v h =
    All-map P (arc_at s.owner s.local edges v) (items_of (incidences 0 edges) v)
    (All-weaker (IsAt 0 edges v) (λ k. P (arc_at s.owner s.local edges v k))
    (λ k f.
    let whole : k - 0 ≡ k = omega arith in
    h k (omega (arith, f.below)) (subst (λ (i : ℕ). IsEndOf (get_or edges i no_edge) v) whole f.end))
    (items_of (incidences 0 edges) v) (edges_at 0 edges v))

any_first : (f : ℕ → Bool) (j : ℕ) (xs : List ℕ) → f j ≡ true → list_any f (j ∷ xs) ≡ true
any_first f j xs passes = ap (λ (b : Bool). b || list_any f xs) passes

or_true : (b : Bool) → (b || true) ≡ true
or_true true = refl
or_true false = refl

any_later : (f : ℕ → Bool) (b : Bool) (j : ℕ) (xs : List ℕ) → list_any f xs ≡ true → list_any f (cond b (j ∷ xs) xs) ≡ true
any_later f true j xs passes = ap (λ (b : Bool). f j || b) passes ∙ or_true (f j)
any_later f false j xs passes = passes

-- an edge at a vertex is among those that the vertex has
found_from : (f : ℕ → Bool) (j : ℕ) (edges : List Edge) (v m : ℕ) → m < length edges → IsEndOf (get_or edges m no_edge) v → f (j + m) ≡ true
    → list_any f (items_of (incidences j edges) v) ≡ true
found_from f j [] v m l end passes = absurd (omega arith)
found_from f j (e ∷ edges) v zero l end passes =
    let at : j + 0 ≡ j = omega arith in
    let passes' : f j ≡ true = subst (λ (k : ℕ). f k ≡ true) at passes in
    let rest : List ℕ = items_of (incidences (j + 1) edges) v in
    let second : List ℕ = items_of (record { key = e.v; item = j } ∷ incidences (j + 1) edges) v in
    ⊎_elim
    (λ same. ap (λ (b : Bool). list_any f (cond b (j ∷ second) second)) (eq-eqb e.u v same) ∙ any_first f j second passes')
    (λ same. any_later f (eqb e.u v) j second (ap (λ (b : Bool). list_any f (cond b (j ∷ rest) rest)) (eq-eqb e.v v same) ∙ any_first f j rest passes'))
    end
found_from f j (e ∷ edges) v (suc m) l end passes =
    let at : j + suc m ≡ j + 1 + m = omega arith in
    let rest = found_from f (j + 1) edges v m (omega arith) end (subst (λ (k : ℕ). f k ≡ true) at passes) in
    any_later f (eqb e.u v) j (items_of (record { key = e.v; item = j } ∷ incidences (j + 1) edges) v) (any_later f (eqb e.v v) j (items_of (incidences (j + 1) edges) v) rest)

any_mapped : (p : Arc → Bool) (h : ℕ → Arc) (xs : List ℕ) → list_any p (map h xs) ≡ list_any (λ x. p (h x)) xs
any_mapped p h [] = refl
any_mapped p h (x ∷ xs) = ap (λ (b : Bool). p (h x) || b) (any_mapped p h xs)

-- the arc of an edge at a vertex is one of the vertex's
arc_found : (p : Arc → Bool) (s : Sharing) (edges : List Edge) (v k : ℕ) → k < length edges → IsEndOf (get_or edges k no_edge) v
    → p (arc_at s.owner s.local edges v k) ≡ true → list_any p (arcs_at s edges v) ≡ true
arc_found p s edges v k l end passes =
    let at : k ≡ 0 + k = omega arith in
    any_mapped p (arc_at s.owner s.local edges v) (items_of (incidences 0 edges) v)
    ∙ found_from (λ i. p (arc_at s.owner s.local edges v i)) 0 edges v k l end (subst (λ (i : ℕ). p (arc_at s.owner s.local edges v i) ≡ true) at passes)

-- what a row has is there
any_of_row : {X : Type 0} (p : X → Bool) (bounds : List ℕ) (items : List X) (i : ℕ) → get_or bounds (i + 1) 0 ≤ length items → list_any p (row_of bounds items i) ≡ true → list_any p items ≡ true
any_of_row p bounds items i within any =
    let found = Any-from_list_any p (row_of bounds items i) any in
    let size : length (row_of bounds items i) ≡ get_or bounds (i + 1) 0 - get_or bounds i 0 = length-between items (get_or bounds i 0) (get_or bounds (i + 1) 0) within in
    let inside : get_or bounds i 0 + found.0 < get_or bounds (i + 1) 0 = omega (arith, found.2) in
    list_any_at p items (get_or bounds i 0 + found.0) found.1 (omega arith)
    (ap p (sym (get_or-between items (get_or bounds i 0) (get_or bounds (i + 1) 0) found.0 found.1 inside) ∙ found.3) ∙ found.4)

-- from its other end an edge leads back
turned : (e : Edge) (u v : ℕ) → u ≢ v → IsEndOf e u → other_end e u ≡ v → IsEndOf e v × (other_end e v ≡ u)
turned e u v apart end leads = elim (cases_eq e.u u) [
  | inl same ↦
      let at : e.v ≡ v = sym (ap (λ (b : Bool). cond b e.v e.u) (eq-eqb e.u u same)) ∙ leads in
      (inr at, ap (λ (b : Bool). cond b e.v e.u) (ne_eqb e.u v (λ h. apart (sym same ∙ h))) ∙ same)
  | inr differ ↦
      let at : e.u ≡ v = sym (ap (λ (b : Bool). cond b e.v e.u) (ne_eqb e.u u differ)) ∙ leads in
      let last : e.v ≡ u = ⊎_elim (λ first. absurd (differ first)) (λ second. second) end in
      (inl at, ap (λ (b : Bool). cond b e.v e.u) (eq-eqb e.u v at) ∙ last)
]

test_holds : (m n i j : ℕ) → m ≡ n → i ≢ j → (eqb m n && not (eqb i j)) ≡ true
test_holds m n i j same apart = ap (λ (b : Bool). b && not (eqb i j)) (eq-eqb m n same) ∙ ap not (ne_eqb i j apart)

test_says : (m n i j : ℕ) → (eqb m n && not (eqb i j)) ≡ true → (m ≡ n) × (i ≢ j)
test_says m n i j test =
    let parts = and_parts (eqb m n) (not (eqb i j)) test in
    (eqb-true m n parts.0, eqb-false i j (not-true (eqb i j) parts.1))

same_bools : (a b : Bool) → (a ≡ true → b ≡ true) → (b ≡ true → a ≡ true) → a ≡ b
same_bools true b f g = sym (f refl)
same_bools false true f g = g refl
same_bools false false f g = refl

module _ (s : Sharing) (laws : IsSharing s) (edges : List Edge) (within : All (IsEdge s.n) edges) (r : ℕ) (rank : r < s.ranks) (bounds : List ℕ) (arcs : List Arc)
    (rows : AreRows (λ i. arcs_at s edges (s.global r i)) (s.count r) bounds arcs) (v : ℕ) where
  abbrev to_abroad : Arc → Bool
  to_abroad a = eqb a.to.0 v && not (eqb a.home.0 r)

  abbrev from_rank : Arc → Bool
  from_rank a = eqb a.home.0 r && not (eqb a.home.0 (s.owner v))

  -- an edge from a vertex of the rank to v is an edge of v
  back_along : (i : ℕ) → i < s.count r → (k : ℕ) → k < length edges → IsEndOf (get_or edges k no_edge) (s.global r i)
      → to_abroad (arc_at s.owner s.local edges (s.global r i) k) ≡ true → list_any from_rank (arcs_at s edges v) ≡ true
  back_along i l k below end test =
      let e : Edge = get_or edges k no_edge in
      let u : ℕ = s.global r i in
      let owned : s.owner u ≡ r = laws.owner_of_global r i rank l in
      let says = test_says (other_end e u) v (s.owner (other_end e u)) r test in
      let turn = turned e u v (λ same. says.1 (ap s.owner says.0 ∙ (ap s.owner (sym same) ∙ owned))) end says.0 in
      let home : s.owner (other_end e v) ≡ r = ap s.owner turn.1 ∙ owned in
      arc_found from_rank s edges v k below turn.0
      (test_holds (s.owner (other_end e v)) r (s.owner (other_end e v)) (s.owner v) home (λ h. says.1 (ap s.owner says.0 ∙ (sym h ∙ home))))

  -- an edge of v to a vertex of the rank is an edge of that vertex, which has its row
  out_along : (k : ℕ) → k < length edges → IsEndOf (get_or edges k no_edge) v → from_rank (arc_at s.owner s.local edges v k) ≡ true → leads_abroad r arcs v ≡ true
  out_along k below end test =
      let e : Edge = get_or edges k no_edge in
      let u : ℕ = other_end e v in
      let says = test_says (s.owner u) r (s.owner u) (s.owner v) test in
      let is = end_within s.n e v (within k no_edge below) in
      let turn = turned e v u (λ same. says.1 (ap s.owner (sym same))) end refl in
      let i : ℕ = s.local u in
      let place : i < s.count r = omega (arith, laws.local_below u is.first is.last, ap s.count says.0) in
      let at : s.global r i ≡ u = ap (λ (q : ℕ). s.global q i) (sym says.0) ∙ laws.global_of_local u is.first is.last in
      let own : list_any to_abroad (arcs_at s edges u) ≡ true =
      arc_found to_abroad s edges u k below turn.0
      (test_holds (other_end e u) v (s.owner (other_end e u)) r turn.1 (λ h. says.1 (says.0 ∙ (sym h ∙ ap s.owner turn.1)))) in
      any_of_row to_abroad bounds arcs i (rows.bounded.within (i + 1) (omega arith))
      (ap (λ (list : List Arc). list_any to_abroad list) (rows.row i place ∙ ap (λ (w : ℕ). arcs_at s edges w) at) ∙ own)

  -- a rank of which an arc leads to v is a home of v's arcs
  pub abroad_is_home : leads_abroad r arcs v ≡ list_any (λ a. eqb a.home.0 r && not (eqb a.home.0 (s.owner v))) (arcs_at s edges v)
  abroad_is_home =
      same_bools (leads_abroad r arcs v) (list_any from_rank (arcs_at s edges v))
      (λ leads.
      let found = Any-from_list_any to_abroad arcs leads in
      let P : Arc → Type 0 = λ a. to_abroad a ≡ true → list_any from_rank (arcs_at s edges v) ≡ true in
      subst P found.3
      (all_from_rows P (λ i. arcs_at s edges (s.global r i)) (s.count r) bounds arcs rows (λ i l. arcs_of_edges P s edges (s.global r i) (back_along i l)) found.0 found.1 found.2)
      found.4)
      (λ leads.
      let found = Any-from_list_any from_rank (arcs_at s edges v) leads in
      let P : Arc → Type 0 = λ a. from_rank a ≡ true → leads_abroad r arcs v ≡ true in
      subst P found.3 (arcs_of_edges P s edges v out_along found.0 found.1 found.2) found.4)

-- the homes of arcs are ranks of the group
home_within : (s : Sharing) → IsSharing s → (edges : List Edge) → All (IsEdge s.n) edges → (v : ℕ) → All (λ a. a.home.0 < s.ranks) (arcs_at s edges v)
home_within s laws edges within v =
    all_arcs_at (λ a. a.home.0 < s.ranks) s edges v (λ k l.
    let is = end_within s.n (get_or edges k no_edge) v (within k no_edge l) in
    laws.owner_is_rank (other_end (get_or edges k no_edge) v) is.first is.last)

pub homes_few : (s : Sharing) → IsSharing s → (edges : List Edge) → All (IsEdge s.n) edges → s.ranks ≤ 32 → (r : ℕ) (bounds : List ℕ) (arcs : List Arc)
    → AreRows (λ i. arcs_at s edges (s.global r i)) (s.count r) bounds arcs → All (λ a. a.home.0 < 32) arcs
homes_few s laws edges within few r bounds arcs rows =
    all_from_rows (λ a. a.home.0 < 32) (λ i. arcs_at s edges (s.global r i)) (s.count r) bounds arcs rows
    (λ i l. All-weaker (λ a. a.home.0 < s.ranks) (λ a. a.home.0 < 32) (λ a h. omega arith) (arcs_at s edges (s.global r i)) (home_within s laws edges within (s.global r i)))

pub no_home : (s : Sharing) → IsSharing s → (edges : List Edge) → All (IsEdge s.n) edges → (v q r : ℕ) → s.ranks ≤ r → list_any (λ a. eqb a.home.0 r && not (eqb a.home.0 q)) (arcs_at s edges v) ≡ false
no_home s laws edges within v q r past =
    list_any_none (λ a. eqb a.home.0 r && not (eqb a.home.0 q)) (arcs_at s edges v)
    (All-weaker (λ a. a.home.0 < s.ranks) (λ a. (eqb a.home.0 r && not (eqb a.home.0 q)) ≡ false)
    (λ a h. ap (λ (b : Bool). b && not (eqb a.home.0 q)) (ne_eqb a.home.0 r (λ same. absurd (omega arith)))) (arcs_at s edges v) (home_within s laws edges within v))
