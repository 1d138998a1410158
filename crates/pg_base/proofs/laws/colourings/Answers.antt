use Rattle.std.proofs.Common.{◌≡◌, ◌≢◌, ◌⊎◌, ℕ, ◌<◌, [], ◌∷◌, refl, sym, ap, ◌∙◌, inl, inr, ⊎_elim, arith}
use Rattle.std.proofs.lemmas.Bool.{cases_eq, ne_eqb}
use Rattle.pg_base.specs.declared.edges.Edge.{Edge}
use Rattle.pg_base.specs.Colouring.{AreJoined}
use Rattle.pg_base.specs.Examples.{edge, path_edges, middle_one, middle_two}
use Rattle.pg_base.proofs.Members.{contains_cases}
use Rattle.pg_base.proofs.laws.colourings.Goals as goal

pub returns-clause-one_colour : goal.returns-clause-one_colour
returns-clause-one_colour c = λ is. is.apart 0 (edge 0 0 0) (omega arith) refl

pub returns-clause-lacking : goal.returns-clause-lacking
returns-clause-lacking c = λ are. omega (arith, are.count)

-- Of two joined vertices of the path the greater is 2 or 3, next to the lesser.
joined_below : (u v : ℕ) → AreJoined path_edges v u → u < v → ((u ≡ 1) × (v ≡ 2)) ⊎ ((u ≡ 2) × (v ≡ 3))
joined_below u v joined less =
    ⊎_elim
    (λ same. let first : 1 ≡ joined.edge.u = ap (λ (e : Edge). e.u) same in let last : 2 ≡ joined.edge.v = ap (λ (e : Edge). e.v) same in ⊎_elim
    (λ ends. absurd (omega (arith, ends.0, ends.1)))
    (λ ends. inl (omega (arith, ends.0), omega (arith, ends.1)))
    joined.ends)
    (λ later. ⊎_elim
    (λ same. let first : 2 ≡ joined.edge.u = ap (λ (e : Edge). e.u) same in let last : 3 ≡ joined.edge.v = ap (λ (e : Edge). e.v) same in ⊎_elim
    (λ ends. absurd (omega (arith, ends.0, ends.1)))
    (λ ends. inr (omega (arith, ends.0), omega (arith, ends.1)))
    joined.ends)
    (λ none. absurd (omega (arith, none.1)))
    (contains_cases (edge 2 3 2) [] joined.edge later))
    (contains_cases (edge 1 2 5) (edge 2 3 2 ∷ []) joined.edge joined.among)

apart_at : (u v x y : ℕ) → u ≡ x → v ≡ y → middle_one x ≢ middle_one y → middle_one u ≢ middle_one v
apart_at u v x y first last apart = λ same. apart (sym (ap middle_one first) ∙ (same ∙ ap middle_one last))

pub returns-clause-first_fit : goal.returns-clause-first_fit
returns-clause-first_fit c = record {
  free = λ u v joined less. ⊎_elim
      (λ at. apart_at u v 1 2 at.0 at.1 (λ same. omega (arith, same)))
      (λ at. apart_at u v 2 3 at.0 at.1 (λ same. omega (arith, same)))
      (joined_below u v joined less);
  least = λ v d first last below. elim (cases_eq v 2) [
    | inl same ↦ (
        let one : middle_one v ≡ 1 = ap middle_one same in
        (1, omega (arith, same), record { edge = edge 1 2 5; among = (0, omega arith, refl); ends = inr (refl, sym same) }, omega (arith, one, below)))
    | inr other ↦ (let none : middle_one v ≡ 0 = rw (ne_eqb v 2 other) refl in absurd (omega (arith, none, below)))
  ];
}

pub returns-clause-skips_one : goal.returns-clause-skips_one
returns-clause-skips_one c = λ is.
    let found = is.least 2 1 (omega arith) (omega arith) (omega arith) in
    let none : middle_two found.0 ≡ 0 = rw (ne_eqb found.0 2 (λ same. omega (arith, same, found.1))) refl in
    omega (arith, none, found.3)
