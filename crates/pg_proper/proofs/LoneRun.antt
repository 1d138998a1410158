-- The example of one rank is a run that has ended.
use Rattle.std.proofs.Common.{◌≡◌, ℕ, zero, suc, ◌<◌, ◌≤◌, ◌-◌, [], ◌∷◌, Some, None, ap, subst, refl, inl, inr, ⊎_elim, ◌⊎◌, arith, AllPairs, Contains}
use Rattle.std.proofs.lemmas.Bool.{cases_eq}
use Rattle.pg_base.specs.Examples.{edge}
use Rattle.pg_base.proofs.Members.{contains_first, contains_later, contains_cases}
use Rattle.pg_proper.specs.Passes.{Colours, Passes, IsLeastFree, with_colour}
use Rattle.pg_proper.specs.Runs.{IsRun, known, HasEnded, IsAnswer}
use Rattle.pg_proper.specs.Example.{one_edge, example_answer, lone_list, lone_example}
use Rattle.pg_proper.proofs.PassLemmas.{some_same}
use Rattle.pg_proper.proofs.Rounds.{none_some}
use Rattle.pg_proper.proofs.ExampleRun.{only, ends_are, is_graph}

-- The ends of the edge on one rank.
own_cases : (v : ℕ) → Contains (1 ∷ 2 ∷ []) v → (1 ≡ v) ⊎ (2 ≡ v)
own_cases v among = ⊎_elim (λ first. inl first) (λ later. inr (only 2 v later)) (contains_cases 1 (2 ∷ []) v among)

ascends : (j : ℕ) → AllPairs (λ v w. v < w) (lone_list j)
ascends zero zero (suc zero) d less within = omega arith
ascends zero zero (suc (suc k)) d less within = absurd (omega (arith, within))
ascends zero (suc i) k d less within = absurd (omega (arith, less, within))
ascends zero zero zero d less within = absurd (omega (arith, less))
ascends (suc j) i k d less within = absurd (omega (arith, within))

-- No vertex has a colour.
abbrev none : Colours
none = λ v. None

-- Once vertex 1 has colour 0 the least that is free at vertex 2 is 1.
second_fits : IsLeastFree one_edge (with_colour none 1 0) 2 1
second_fits = record {
  free = λ t.
      let one : t.neighbour ≡ 1 = ⊎_elim (λ a. absurd (omega (arith, a.0))) (λ b. b.1) (ends_are 2 t.neighbour t.joined) in
      let zero_one : Some 0 ≡ Some 1 = subst (λ (u : ℕ). with_colour none 1 0 u ≡ Some 1) one t.has in
      let bad = some_same 0 1 zero_one in
      omega (arith, bad);
  least = λ d less. record {
    neighbour = 1;
    joined = record { edge = edge 1 2 1; among = contains_first (edge 1 2 1) []; ends = inr (refl, refl) };
    has = let zero_d : 0 ≡ d = omega (arith, less) in ap (λ (k : ℕ). Some k) zero_d;
  };
}

passes : (r j : ℕ) → r < 1 → j ≤ 1
    → Passes one_edge (1 ∷ 2 ∷ []) (lone_list j) (known lone_example r j) (λ v. Some (v - 1))
passes zero zero rank within = (
  0,
  record { free = λ t. none_some 0 t.has; least = λ d less. absurd (omega (arith, less)) },
  (
    1,
    second_fits,
    λ v mine. ⊎_elim
        (λ first. subst (λ (w : ℕ). Some (w - 1) ≡ with_colour (with_colour none 1 0) 2 1 w) first refl)
        (λ second. subst (λ (w : ℕ). Some (w - 1) ≡ with_colour (with_colour none 1 0) 2 1 w) second refl)
        (own_cases v mine),
  ),
)
passes zero (suc j) rank within = λ v mine. refl
passes (suc r) j rank within = absurd (omega (arith, rank))

pub ended : HasEnded lone_example 1
ended r rank = refl

pub answer : IsAnswer lone_example 1 example_answer
answer v low high = refl

pub is_run : IsRun lone_example 1
is_run = record {
  graph = is_graph;
  owned = λ v low high. omega arith;
  owns = λ r v rank. (
    λ among. ⊎_elim
        (λ first. (omega (arith, first), omega (arith, first), omega (arith, rank)))
        (λ second. (omega (arith, second), omega (arith, second), omega (arith, rank)))
        (own_cases v among),
    λ h. elim (cases_eq 1 v) [
      | inl first ↦ subst (Contains (1 ∷ 2 ∷ [])) first (contains_first 1 (2 ∷ []))
      | inr other ↦ let second : 2 ≡ v = omega (arith, h.0, h.1, other) in
          subst (Contains (1 ∷ 2 ∷ [])) second (contains_later 1 (2 ∷ []) 2 (contains_first 2 []))
    ],
  );
  ascends = λ r j rank within. ascends j;
  begins = λ r rank. refl;
  goes_on = λ r j v rank within. (
    λ among. absurd (omega (arith, among.1)),
    λ h. absurd (h.1.ghost.away (omega (arith, rank))),
  );
  passes = passes;
  fresh = λ r j u v rank within ghost. absurd (ghost.away (omega (arith, rank)));
}
