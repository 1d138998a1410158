-- The example of two ranks is a run that has ended.
use Rattle.std.proofs.Common.{◌≡◌, ℕ, zero, suc, ◌<◌, ◌≤◌, [], ◌∷◌, Some, None, sym, ◌∙◌, ◌-◌, ap, subst, refl, inl, inr, ⊎_elim, ◌⊎◌, ◌↔◌, arith, AllPairs, Contains}
use Rattle.std.proofs.lemmas.Bool.{cases_eq}
use Rattle.std.proofs.lemmas.List.Elements.{All-nil, All-cons}
use Rattle.pg_base.specs.declared.edges.Edge.{Edge}
use Rattle.pg_base.specs.Graph.{IsEdge, IsGraph}
use Rattle.pg_base.specs.Examples.{edge, graph}
use Rattle.pg_base.proofs.Members.{contains_first, contains_cases}
use Rattle.pg_base.specs.Colouring.{AreJoined}
use Rattle.pg_proper.specs.Passes.{Passes, IsLeastFree, with_colour}
use Rattle.pg_proper.specs.Runs.{IsRun, IsClash, known, HasEnded, IsAnswer}
use Rattle.pg_proper.specs.Example.{one_edge, lists, colours_after, example, example_answer}
use Rattle.pg_proper.proofs.PassLemmas.{some_same, at_it}
use Rattle.pg_proper.proofs.Rounds.{none_some}

pub only : {X : Type 0} (x v : X) → Contains (x ∷ []) v → x ≡ v
only x v among = ⊎_elim (λ same. same) (λ later. absurd (omega (arith, later.1))) (contains_cases x [] v among)

-- The ends of the only edge.
pub ends_are : (v w : ℕ) → AreJoined one_edge v w → ((v ≡ 1) × (w ≡ 2)) ⊎ ((v ≡ 2) × (w ≡ 1))
ends_are v w j =
    let same = only (edge 1 2 1) j.edge j.among in
    let first : 1 ≡ j.edge.u = ap (λ (e : Edge). e.u) same in
    let second : 2 ≡ j.edge.v = ap (λ (e : Edge). e.v) same in
    ⊎_elim
    (λ a. inl (sym (first ∙ a.0), sym (second ∙ a.1)))
    (λ b. inr (sym (second ∙ b.1), sym (first ∙ b.0)))
    j.ends

pub is_graph : IsGraph (graph 2 one_edge)
is_graph = record {
  vertices = omega arith;
  size = omega arith;
  within = All-cons (IsEdge 2) (edge 1 2 1) [] (record { first = omega arith; ascends = omega arith; last = omega arith }) (All-nil (IsEdge 2));
  ascending = λ i j d less within. absurd (omega (arith, less, within));
  positive = All-cons (λ e. 1 ≤ e.w) (edge 1 2 1) [] (omega arith) (All-nil (λ e. 1 ≤ e.w));
}

ascends : (r j : ℕ) → AllPairs (λ v w. v < w) (lists r j)
ascends r zero i k d less within = absurd (omega (arith, less, within))
ascends zero (suc j) i k d less within = absurd (omega (arith, within))
ascends (suc r) (suc zero) i k d less within = absurd (omega (arith, less, within))
ascends (suc r) (suc (suc j)) i k d less within = absurd (omega (arith, within))

goes_on : (r j v : ℕ) → r < 2 → j < 2 → Contains (lists r (suc j)) v ↔ (Contains (suc r ∷ []) v × IsClash example r j v)
goes_on zero j v rank within = (
  λ among. absurd (omega (arith, among.1)),
  λ h.
      let at : 1 ≡ v = only 1 v h.0 in
      absurd (⊎_elim (λ a. omega (arith, a.1, at)) (λ b. omega (arith, b.0, h.1.below, at)) (ends_are h.1.lesser v h.1.ghost.joined)),
)
goes_on (suc zero) zero v rank within = (
  λ among. (
    among,
    record {
      lesser = 1;
      below = let at : 2 ≡ v = only 2 v among in omega (arith, at);
      ghost = record {
        own = among;
        away = λ e. omega (arith, e);
        joined = record { edge = edge 1 2 1; among = contains_first (edge 1 2 1) []; ends = inl (refl, only 2 v among) };
      };
      same = refl;
    },
  ),
  λ h. h.0,
)
goes_on (suc zero) (suc zero) v rank within = (
  λ among. absurd (omega (arith, among.1)),
  λ h.
      let at : 2 ≡ v = only 2 v h.0 in
      let other : h.1.lesser ≡ 1 = ⊎_elim (λ a. a.0) (λ b. absurd (omega (arith, b.1, at))) (ends_are h.1.lesser v h.1.ghost.joined) in
      let seen : Some 0 ≡ colours_after 1 v = subst (λ (u : ℕ). colours_after 1 u ≡ colours_after 1 v) other h.1.same in
      let zero_one : Some 0 ≡ Some 1 = subst (λ (y : ℕ). Some 0 ≡ colours_after 1 y) (sym at) seen in
      let bad = some_same 0 1 zero_one in
      absurd (omega (arith, bad)),
)
goes_on (suc zero) (suc (suc j)) v rank within = absurd (omega (arith, within))
goes_on (suc (suc r)) j v rank within = absurd (omega (arith, rank))

again_fits : IsLeastFree one_edge (known example 1 1) 2 1
again_fits = record {
  free = λ t.
      let one : t.neighbour ≡ 1 = ⊎_elim (λ a. absurd (omega (arith, a.0))) (λ b. b.1) (ends_are 2 t.neighbour t.joined) in
      let zero_one : Some 0 ≡ Some 1 = subst (λ (u : ℕ). known example 1 1 u ≡ Some 1) one t.has in
      let bad = some_same 0 1 zero_one in
      omega (arith, bad);
  least = λ d less. record {
    neighbour = 1;
    joined = record { edge = edge 1 2 1; among = contains_first (edge 1 2 1) []; ends = inr (refl, refl) };
    has = let none : 0 ≡ d = omega (arith, less) in ap (λ (k : ℕ). Some k) none;
  };
}

passes : (r j : ℕ) → r < 2 → j ≤ 2 → Passes one_edge (suc r ∷ []) (lists r j) (known example r j) (colours_after j)
passes r zero rank within = (
  0,
  record { free = λ t. none_some 0 t.has; least = λ d less. absurd (omega (arith, less)) },
  λ v mine. subst (λ (y : ℕ). Some 0 ≡ with_colour (λ w. None) (suc r) 0 y) (only (suc r) v mine) (sym (at_it (λ w. None) (suc r) 0)),
)
passes zero (suc zero) rank within = λ v mine. subst (λ (y : ℕ). colours_after 1 y ≡ known example 0 1 y) (only 1 v mine) refl
passes zero (suc (suc j)) rank within = λ v mine. subst (λ (y : ℕ). colours_after 2 y ≡ known example 0 2 y) (only 1 v mine) refl
passes (suc zero) (suc zero) rank within =
    (1, again_fits, λ v mine. subst (λ (y : ℕ). colours_after 1 y ≡ with_colour (known example 1 1) 2 1 y) (only 2 v mine) refl)
passes (suc zero) (suc (suc j)) rank within = λ v mine. subst (λ (y : ℕ). colours_after 2 y ≡ known example 1 2 y) (only 2 v mine) refl
passes (suc (suc r)) (suc j) rank within = absurd (omega (arith, rank))

pub ended : HasEnded example 2
ended zero rank = refl
ended (suc r) rank = refl

pub answer : IsAnswer example 2 example_answer
answer v low high = elim (cases_eq v 2) [
  | inl second ↦ subst (λ (w : ℕ). colours_after 2 w ≡ Some (w - 1)) (sym second) refl
  | inr other ↦ let first : 1 ≡ v = omega (arith, low, high, other) in subst (λ (w : ℕ). colours_after 2 w ≡ Some (w - 1)) first refl
]

pub is_run : IsRun example 2
is_run = record {
  graph = is_graph;
  owned = λ v low high. omega (arith, low, high);
  owns = λ r v rank. (
    λ among. let at : suc r ≡ v = only (suc r) v among in (omega (arith, at), omega (arith, at, rank), omega (arith, at)),
    λ h. let at : suc r ≡ v = omega (arith, h.0, h.2) in subst (Contains (suc r ∷ [])) at (contains_first (suc r) []),
  );
  ascends = λ r j rank within. ascends r j;
  begins = λ r rank. refl;
  goes_on = goes_on;
  passes = passes;
  fresh = λ r j u v rank within ghost. refl;
}
