-- The arcs that leave a vertex are as many as the edges that meet it.
use Rattle.std.proofs.Common.{◌≡◌, ◌==◌, ◌||◌, ℕ, zero, suc, ◌+◌, ◌<◌, cond, List, [], ◌∷◌, length, refl, ◌∙◌, arith, inl, inr}
use Rattle.std.specs.Prelude.{All, count_by}
use Rattle.std.proofs.lemmas.Bool.{cases_eq, eq-eqb, ne_eqb}
use Rattle.std.proofs.lemmas.List.Sums.{length-filter, sum_by-cons}
use Rattle.pg_base.specs.declared.edges.Edge.{Edge}
use Rattle.pg_base.specs.Colouring.{degree}
use Rattle.pg_base.specs.Graph.{Arc, IsEdge, arcs_of, arcs_from, forward, backward}

one_end : (a b v : ℕ) → a < b → cond (a == v || b == v) 1 0 ≡ cond (a == v) 1 0 + cond (b == v) 1 0
one_end a b v below = elim (cases_eq a v) [
  | inl here ↦ rw (eq-eqb a v here, ne_eqb b v (λ there. omega (arith, below, here, there))) refl
  | inr apart ↦ rw (ne_eqb a v apart) (omega arith)
]

counted : (n : ℕ) (edges : List Edge) (v : ℕ) → All (IsEdge n) edges → count_by (λ (a : Arc). a.from == v) (arcs_of edges) ≡ degree edges v
counted n [] v within = refl
counted n (e ∷ edges) v within =
    let first = sum_by-cons (λ (a : Arc). cond (a.from == v) 1 0) (forward e) (backward e ∷ arcs_of edges) in
    let second = sum_by-cons (λ (a : Arc). cond (a.from == v) 1 0) (backward e) (arcs_of edges) in
    let here = sum_by-cons (λ (d : Edge). cond (d.u == v || d.v == v) 1 0) e edges in
    let rest = counted n edges v (λ k d h. within (suc k) d (omega (arith, h))) in
    let one = one_end e.u e.v v (within zero e (omega arith)).ascends in
    omega (arith, first, second, here, rest, one)

pub leaving_is_degree : (n : ℕ) (edges : List Edge) (v : ℕ) → All (IsEdge n) edges → length (arcs_from (arcs_of edges) v) ≡ degree edges v
leaving_is_degree n edges v within = length-filter (λ (a : Arc). a.from == v) (arcs_of edges) ∙ counted n edges v within
