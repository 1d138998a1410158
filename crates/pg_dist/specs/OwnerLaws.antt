-- The laws of distributions for a list of owners.
use Rattle.std.proofs.Common.{◌≡◌, ℕ, ◌+◌, ◌-◌, ◌<◌, ◌≤◌, List, [], ◌∷◌, length, take, get_or, eqb, arith, inl, inr, refl, ap, ◌∙◌, cond, zero, suc}
use Rattle.std.proofs.lemmas.Bool.{cases_order, cases_eq, eq-eqb, ne_eqb}
use Rattle.std.proofs.lemmas.List.{take-take}
use Rattle.std.proofs.lemmas.List.Sums.{sum_by-cons, count_by-le-length, sum_by-take-le, count_by_more_yes}
use Rattle.pg_base.specs.declared.TheConstants.{MAX_VERTICES}
use Rattle.pg_dist.specs.Sharing.{IsSharing}
use Rattle.pg_dist.specs.Tables.{AreRanks}
use Rattle.pg_dist.specs.Owners.{owner_in, count_in, place_in, vertices_from, vertex_in, listed_sharing}

count_in-same : (o r : ℕ) (os : List ℕ) → o ≡ r → count_in (o ∷ os) r ≡ 1 + count_in os r
count_in-same o r os same = sum_by-cons (λ x. cond (eqb x r) 1 0) o os ∙ rw (eq-eqb o r same)

count_in-other : (o r : ℕ) (os : List ℕ) → (o ≡ r → ⊥) → count_in (o ∷ os) r ≡ count_in os r
count_in-other o r os other = sum_by-cons (λ x. cond (eqb x r) 1 0) o os ∙ rw (ne_eqb o r other) (omega arith)

-- an entry is one more of its rank
pub count_in-rises : (os : List ℕ) (r j k : ℕ) → get_or os j 0 ≡ r → j < k → k ≤ length os
    → count_in (take j os) r < count_in (take k os) r
count_in-rises os r j k at later within =
    let more : count_in (take (j + 1) os) r ≡ count_in (take j os) r + 1
    = count_by_more_yes (λ o. eqb o r) os j 0 (omega arith) (eq-eqb (get_or os j 0) r at) in
    let front : count_in (take (j + 1) (take k os)) r ≤ count_in (take k os) r
    = sum_by-take-le (λ o. cond (eqb o r) 1 0) (take k os) (j + 1) in
    let same : take (j + 1) (take k os) ≡ take (j + 1) os = take-take (j + 1) k os (omega arith) in
    let front' : count_in (take (j + 1) os) r ≤ count_in (take k os) r = rw same at front in
    omega arith

-- before an entry of a rank there are fewer than in the whole list
pub count_in-below : (os : List ℕ) (r k : ℕ) → k < length os → get_or os k 0 ≡ r
    → count_in (take k os) r < count_in os r
count_in-below os r k within at =
    let more : count_in (take (k + 1) os) r ≡ count_in (take k os) r + 1
    = count_by_more_yes (λ o. eqb o r) os k 0 within (eq-eqb (get_or os k 0) r at) in
    omega (arith, sum_by-take-le (λ o. cond (eqb o r) 1 0) os (k + 1))

-- Where vertex number i of rank r stands in the list.
pub record Stands (v : ℕ) (os : List ℕ) (r i k : ℕ) : Type 0 where
  pub within : k < length os
  pub owner : get_or os k 0 ≡ r
  pub place : count_in (take k os) r ≡ i
  pub vertex : get_or (vertices_from v os r) i 0 ≡ v + k

-- after an entry of another rank
stands_other : (o : ℕ) (os : List ℕ) (v r i : ℕ) → (o ≡ r → ⊥) → ((k : ℕ) × Stands (v + 1) os r i k)
    → (k : ℕ) × Stands v (o ∷ os) r i k
stands_other o os v r i other (k, s) = (
  suc k,
  record {
    within = omega (arith, s.within);
    owner = s.owner;
    place = count_in-other o r (take k os) other ∙ s.place;
    vertex = rw (ne_eqb o r other) (s.vertex ∙ omega arith);
  },
)

-- after an entry of the rank itself
stands_next : (o : ℕ) (os : List ℕ) (v r i : ℕ) → o ≡ r → ((k : ℕ) × Stands (v + 1) os r i k)
    → (k : ℕ) × Stands v (o ∷ os) r (suc i) k
stands_next o os v r i same (k, s) = (
  suc k,
  record {
    within = omega (arith, s.within);
    owner = s.owner;
    place = count_in-same o r (take k os) same ∙ omega (arith, s.place);
    vertex = rw (eq-eqb o r same) (s.vertex ∙ omega arith);
  },
)

-- at an entry of the rank itself
stands_here : (o : ℕ) (os : List ℕ) (v r : ℕ) → o ≡ r → (k : ℕ) × Stands v (o ∷ os) r 0 k
stands_here o os v r same = (
  0,
  record {
    within = omega arith;
    owner = same;
    place = refl;
    vertex = rw (eq-eqb o r same) (omega arith);
  },
)

-- from an entry of the rank itself on
stands_same : (o : ℕ) (os : List ℕ) (v r i : ℕ) → o ≡ r
    → ((i : ℕ) → i < count_in os r → (k : ℕ) × Stands (v + 1) os r i k)
    → i < count_in (o ∷ os) r → (k : ℕ) × Stands v (o ∷ os) r i k
stands_same o os v r zero same later below = stands_here o os v r same
stands_same o os v r (suc i) same later below =
    stands_next o os v r i same (later i (omega (arith, count_in-same o r os same)))

-- each place of a rank stands somewhere
pub stands : (os : List ℕ) (v r i : ℕ) → i < count_in os r → (k : ℕ) × Stands v os r i k
stands [] v r i below = absurd (omega arith)
stands (o ∷ os) v r i below = elim (cases_eq o r) [
  | inl same ↦ stands_same o os v r i same (stands os (v + 1) r) below
  | inr other ↦ stands_other o os v r i other
      (stands os (v + 1) r i (omega (arith, count_in-other o r os other)))
]

-- two entries of one rank at one place are one
pub same_place : (os : List ℕ) (r j k : ℕ) → j < length os → k < length os → get_or os j 0 ≡ r → get_or os k 0 ≡ r
    → count_in (take j os) r ≡ count_in (take k os) r → j ≡ k
same_place os r j k first second at_j at_k place = elim (cases_order j k) [
  | inl same ↦ same
  | inr (inl before) ↦ absurd (omega (arith, count_in-rises os r j k at_j before (omega arith)))
  | inr (inr after) ↦ absurd (omega (arith, count_in-rises os r k j at_k after (omega arith)))
]

-- the vertices of a rank ascend
stand_in_order : (os : List ℕ) (r i j k m : ℕ) → Stands 1 os r i k → Stands 1 os r j m → i < j → k < m
stand_in_order os r i j k m s t below = elim (cases_order k m) [
  | inl same ↦ absurd (
      let places : count_in (take k os) r ≡ count_in (take m os) r = ap (λ x. count_in (take x os) r) same in
      omega (arith, s.place, t.place))
  | inr (inl before) ↦ before
  | inr (inr after) ↦ absurd (omega (
    arith,
    s.place,
    t.place,
    t.within,
    s.within,
    count_in-rises os r m k t.owner after (omega (arith, s.within)),
  ))
]

-- the laws
pub owner_in-below : (os : List ℕ) (ranks v : ℕ) → AreRanks os ranks → 1 ≤ v → v ≤ length os → owner_in os v < ranks
owner_in-below os ranks v are first last = are (v - 1) (omega arith)

pub place_in-below : (os : List ℕ) (v : ℕ) → 1 ≤ v → v ≤ length os → place_in os v < count_in os (owner_in os v)
place_in-below os v first last = count_in-below os (owner_in os v) (v - 1) (omega arith) refl

pub vertex_in_place : (os : List ℕ) (v : ℕ) → 1 ≤ v → v ≤ length os → vertex_in os (owner_in os v) (place_in os v) ≡ v
vertex_in_place os v first last =
    let s = stands os 1 (owner_in os v) (place_in os v) (place_in-below os v first last) in
    omega (
      arith,
      s.1.vertex,
      same_place os (owner_in os v) s.0 (v - 1) s.1.within (omega arith) s.1.owner refl s.1.place,
    )

pub count_in-within : (os : List ℕ) (r : ℕ) → count_in os r ≤ length os
count_in-within os r = count_by-le-length (λ o. eqb o r) os

pub vertex_in-first : (os : List ℕ) (r i : ℕ) → i < count_in os r → 1 ≤ vertex_in os r i
vertex_in-first os r i below = let s = stands os 1 r i below in omega (arith, s.1.vertex)

pub vertex_in-last : (os : List ℕ) (r i : ℕ) → i < count_in os r → vertex_in os r i ≤ length os
vertex_in-last os r i below = let s = stands os 1 r i below in omega (arith, s.1.vertex, s.1.within)

pub owner_in-vertex_in : (os : List ℕ) (r i : ℕ) → i < count_in os r → owner_in os (vertex_in os r i) ≡ r
owner_in-vertex_in os r i below =
    let s = stands os 1 r i below in
    let entry : vertex_in os r i - 1 ≡ s.0 = omega (arith, s.1.vertex) in
    ap (λ x. get_or os x 0) entry ∙ s.1.owner

pub place_in-vertex_in : (os : List ℕ) (r i : ℕ) → i < count_in os r → place_in os (vertex_in os r i) ≡ i
place_in-vertex_in os r i below =
    let s = stands os 1 r i below in
    let entry : vertex_in os r i - 1 ≡ s.0 = omega (arith, s.1.vertex) in
    ap (λ x. count_in (take x os) (get_or os x 0)) entry ∙ ap (λ x. count_in (take s.0 os) x) s.1.owner ∙ s.1.place

pub vertex_in-ascends : (os : List ℕ) (r i j : ℕ) → i < j → j < count_in os r → vertex_in os r i < vertex_in os r j
vertex_in-ascends os r i j order below =
    let s = stands os 1 r i (omega arith) in
    let t = stands os 1 r j below in
    omega (arith, s.1.vertex, t.1.vertex, stand_in_order os r i j s.0 t.0 s.1 t.1 order)

-- All laws together.
pub listed_laws : (os : List ℕ) (ranks : ℕ) → length os ≤ MAX_VERTICES → AreRanks os ranks → IsSharing (listed_sharing os ranks)
listed_laws os ranks few are = record {
  n_within = few;
  owner_is_rank = λ v first last. owner_in-below os ranks v are first last;
  local_below = λ v first last. place_in-below os v first last;
  global_of_local = λ v first last. vertex_in_place os v first last;
  count_within = λ r rank. count_in-within os r;
  global_first = λ r i rank place. vertex_in-first os r i place;
  global_last = λ r i rank place. vertex_in-last os r i place;
  owner_of_global = λ r i rank place. owner_in-vertex_in os r i place;
  local_of_global = λ r i rank place. place_in-vertex_in os r i place;
  global_ascends = λ r i j rank order place. vertex_in-ascends os r i j order place;
}
