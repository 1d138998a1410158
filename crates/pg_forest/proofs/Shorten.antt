-- Walks without repeated vertices.
use Rattle.std.proofs.Common.{All, ◌≡◌, ◌≢◌, ℕ, suc, ◌<◌, ◌≤◌, ◌⊎◌, List, [], ◌∷◌, length, get_or, eqb, sym, ◌∙◌, subst, inl, inr, ⊎_elim, arith, AllPairs, Contains}
use Rattle.std.proofs.lemmas.Bool.{cases_eq, eqb-true, ne_eqb}
use Rattle.std.proofs.lemmas.List.{length-map}
use Rattle.std.proofs.lemmas.List.Elements.{All-contains, Contains-get_or}
use Rattle.std.proofs.lemmas.List.Sums.{sum_by-cons}
use Rattle.std.proofs.lemmas.Map.Keys.{IsDistinct-from_apart}
use Rattle.std.proofs.lemmas.Map.Steps.{length-le_from_distinct_below}
use Rattle.std.proofs.lemmas.Map.Views.{Contains-from_any}
use Rattle.pg_base.specs.Graph.{Arc}
use Rattle.pg_base.specs.Walk.{IsWalk, vertices_of}
use Rattle.pg_base.proofs.Members.{contains_first, contains_later, contains_cases, AllPairs-cons}
use Rattle.pg_forest.specs.ShortWalks.{Shortens, WalksShorten, ShortWalksEnd}

-- What a shortened walk is, with the walk that it shortens.
abbrev Short : List Arc → ℕ → ℕ → List Arc → Type 0
Short arcs s v walk = Shortens arcs s v walk

vertex_is_decided : (s : ℕ) (xs : List ℕ) → Contains xs s ⊎ (Contains xs s → ⊥)
vertex_is_decided s [] = inr (λ among. omega (arith, among.1))
vertex_is_decided s (x ∷ xs) = step (cases_eq x s) (vertex_is_decided s xs)
  where
    step : (x ≡ s) ⊎ (x ≡ s → ⊥) → Contains xs s ⊎ (Contains xs s → ⊥) → Contains (x ∷ xs) s ⊎ (Contains (x ∷ xs) s → ⊥)
    step (inl same) rest = inl (subst (Contains (x ∷ xs)) same (contains_first x xs))
    step (inr apart) (inl later) = inl (contains_later x xs s later)
    step (inr apart) (inr never) = inr (λ among. ⊎_elim apart never (contains_cases x xs s among))

tail_distinct : (x : ℕ) (xs : List ℕ) → AllPairs (λ x y. x ≢ y) (x ∷ xs) → AllPairs (λ x y. x ≢ y) xs
tail_distinct x xs distinct i j d less within = distinct (suc i) (suc j) d (omega arith) (omega arith)

-- The part of a walk from one of its vertices on.
cut : (arcs : List Arc) (m : ℕ) (walk : List Arc) (v s : ℕ) → IsWalk arcs m walk v → AllPairs (λ x y. x ≢ y) (vertices_of m walk) → Contains (vertices_of m walk) s → Shortens arcs s v walk
cut arcs m [] v s joins distinct among =
    record {
      short = [];
      joins = ⊎_elim (λ same. sym same ∙ joins) (λ later. absurd (omega (arith, later.1))) (contains_cases m [] s among);
      simple = λ i j d less within. absurd (omega arith);
      cheap = λ cost. omega arith;
    }
cut arcs m (a ∷ walk) v s joins distinct among =
    ⊎_elim
    (λ same. record {
      short = a ∷ walk;
      joins = subst (λ (x : ℕ). IsWalk arcs x (a ∷ walk) v) same joins;
      simple = subst (λ (x : ℕ). AllPairs (λ x y. x ≢ y) (vertices_of x (a ∷ walk))) same distinct;
      cheap = λ cost. omega arith;
    })
    (λ later.
    let rest = cut arcs a.to walk v s joins.2 (tail_distinct m (vertices_of a.to walk) distinct) later in
    record {
      short = rest.short;
      joins = rest.joins;
      simple = rest.simple;
      cheap = λ cost. let sum = sum_by-cons cost a walk in let less = rest.cheap cost in omega arith;
    })
    (contains_cases m (vertices_of a.to walk) s among)

-- One arc before a walk that is short already.
before : (arcs : List Arc) (s v : ℕ) (a : Arc) (walk : List Arc) → Contains arcs a → a.from ≡ s → (rest : Shortens arcs a.to v walk) → Contains (vertices_of a.to rest.short) s ⊎ (Contains (vertices_of a.to rest.short) s → ⊥) → Shortens arcs s v (a ∷ walk)
before arcs s v a walk among starts rest (inl again) =
    let part = cut arcs a.to rest.short v s rest.joins rest.simple again in
    record {
      short = part.short;
      joins = part.joins;
      simple = part.simple;
      cheap = λ cost.
          let sum = sum_by-cons cost a walk in
          let less = rest.cheap cost in
          let least = part.cheap cost in
          omega arith;
    }
before arcs s v a walk among starts rest (inr fresh) = record {
  short = a ∷ rest.short;
  joins = (among, starts, rest.joins);
  simple = AllPairs-cons (λ x y. x ≢ y) s (vertices_of a.to rest.short)
      (λ k d below same. fresh (subst (Contains (vertices_of a.to rest.short)) (sym same) (Contains-get_or (vertices_of a.to rest.short) k d below)))
      rest.simple;
  cheap = λ cost.
      let sum = sum_by-cons cost a walk in
      let shorter = sum_by-cons cost a rest.short in
      let less = rest.cheap cost in
      omega arith;
}

pub walks_shorten : WalksShorten
walks_shorten arcs s v [] joins = record {
  short = [];
  joins = joins;
  simple = λ i j d less within. absurd (omega arith);
  cheap = λ cost. omega arith;
}
walks_shorten arcs s v (a ∷ walk) joins =
    let rest = walks_shorten arcs a.to v walk joins.2 in
    before arcs s v a walk joins.0 joins.1 rest (vertex_is_decided s (vertices_of a.to rest.short))

-- All vertices that a walk meets are within what its arcs lead to.
meets_vertices : (n : ℕ) (arcs : List Arc) → All (λ a. (1 ≤ a.to) × (a.to ≤ n)) arcs → (s : ℕ) (walk : List Arc) (v : ℕ) → 1 ≤ s → s ≤ n → IsWalk arcs s walk v → (x : ℕ) → Contains (vertices_of s walk) x → (1 ≤ x) × (x ≤ n)
meets_vertices n arcs within s [] v low high joins x among =
    ⊎_elim (λ same. (omega arith, omega arith)) (λ later. absurd (omega (arith, later.1))) (contains_cases s [] x among)
meets_vertices n arcs within s (a ∷ walk) v low high joins x among =
    let ends = All-contains (λ (a : Arc). (1 ≤ a.to) × (a.to ≤ n)) arcs a within joins.0 in
    ⊎_elim
    (λ same. (omega arith, omega arith))
    (λ later. meets_vertices n arcs within a.to walk v ends.0 ends.1 joins.2 x later)
    (contains_cases s (vertices_of a.to walk) x among)

pub short_walks_end : ShortWalksEnd
short_walks_end n arcs within s v walk low high joins distinct =
    let all : length (0 ∷ vertices_of s walk) ≤ suc n =
    length-le_from_distinct_below (0 ∷ vertices_of s walk) (suc n)
    (IsDistinct-from_apart eqb (0 ∷ vertices_of s walk) (λ i j d less bound. ne_eqb _ _ (apart i j d less bound)))
    (λ q any. below q (contains_cases 0 (vertices_of s walk) q (Contains-from_any eqb-true q (0 ∷ vertices_of s walk) any))) in
    let size = length-map walk (λ (a : Arc). a.to) in
    omega arith
  where
    apart : AllPairs (λ x y. x ≢ y) (0 ∷ vertices_of s walk)
    apart =
        AllPairs-cons (λ x y. x ≢ y) 0 (vertices_of s walk)
        (λ k d below same.
        let met = meets_vertices n arcs within s walk v low high joins (get_or (vertices_of s walk) k d) (Contains-get_or (vertices_of s walk) k d below) in
        omega (arith, met.0))
        distinct

    below : (q : ℕ) → (0 ≡ q) ⊎ Contains (vertices_of s walk) q → q < suc n
    below q (inl same) = omega arith
    below q (inr later) = let met = meets_vertices n arcs within s walk v low high joins q later in omega (arith, met.1)
