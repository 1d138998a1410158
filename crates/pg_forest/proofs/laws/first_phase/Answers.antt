use Rattle.std.proofs.Common.{◌≡◌, ◌≢◌, ℕ, true, [], ◌∷◌, refl, sym, subst, inl, inr, ⊎_elim, arith, Contains}
use Rattle.std.proofs.lemmas.Bool.{cases_eq, ne_eqb, false≢true}
use Rattle.pg_base.specs.declared.edges.Edge.{Edge}
use Rattle.pg_base.specs.Forest.{key_lt}
use Rattle.pg_base.specs.Examples.{edge, path_edges}
use Rattle.pg_base.proofs.Members.{contains_cases}
use Rattle.pg_forest.specs.Phases.{IsHook, KeepsWithin}
use Rattle.pg_forest.specs.Example.{hook, win}
use Rattle.pg_forest.proofs.laws.first_phase.Goals as goal

-- What is so of both edges of the path is so of each.
each : (P : Edge → Type 0) → P (edge 1 2 5) → P (edge 2 3 2) → (d : Edge) → Contains path_edges d → P d
each P first second d among =
    ⊎_elim
    (λ same. subst P same first)
    (λ later. ⊎_elim (λ same. subst P same second) (λ none. absurd (omega (arith, none.1))) (contains_cases (edge 2 3 2) [] d later))
    (contains_cases (edge 1 2 5) (edge 2 3 2 ∷ []) d among)

least_at : (l : ℕ) (e : Edge) → (key_lt (edge 1 2 5) e ≡ true → KeepsWithin (λ v. v) l (edge 1 2 5)) → (key_lt (edge 2 3 2) e ≡ true → KeepsWithin (λ v. v) l (edge 2 3 2))
    → (d : Edge) → Contains path_edges d → key_lt d e ≡ true → KeepsWithin (λ v. v) l d
least_at l e first second d among = each (λ x. key_lt x e ≡ true → KeepsWithin (λ v. v) l x) first second d among

hook_1 : IsHook path_edges (λ v. v) 1 2 (edge 1 2 5)
hook_1 = record {
  among = (0, omega arith, refl);
  leads = inl (refl, refl);
  apart = λ same. omega (arith, same);
  least = least_at 1 (edge 1 2 5) (λ is. absurd (false≢true is)) (λ is. (λ h. absurd (omega (arith, h)), λ h. absurd (omega (arith, h))));
}

hook_2 : IsHook path_edges (λ v. v) 2 3 (edge 2 3 2)
hook_2 = record {
  among = (1, omega arith, refl);
  leads = inl (refl, refl);
  apart = λ same. omega (arith, same);
  least = least_at 2 (edge 2 3 2) (λ is. absurd (false≢true is)) (λ is. absurd (false≢true is));
}

hook_3 : IsHook path_edges (λ v. v) 3 2 (edge 2 3 2)
hook_3 = record {
  among = (1, omega arith, refl);
  leads = inr (refl, refl);
  apart = λ same. omega (arith, same);
  least = least_at 3 (edge 2 3 2) (λ is. absurd (false≢true is)) (λ is. absurd (false≢true is));
}

stays : (l : ℕ) → l ≢ 1 → l ≢ 2 → l ≢ 3 → hook l ≡ l
stays l one two three = rw (ne_eqb l 1 one, ne_eqb l 2 two, ne_eqb l 3 three) refl

-- What is so of the labels 1 to 3, and of any that stays.
by_label : (P : ℕ → Type 0) → P 1 → P 2 → P 3 → ((l : ℕ) → l ≢ 1 → l ≢ 2 → l ≢ 3 → P l) → (l : ℕ) → P l
by_label P one two three other l = elim (cases_eq l 1) [
  | inl same ↦ subst P (sym same) one
  | inr not_1 ↦ elim (cases_eq l 2) [
    | inl same ↦ subst P (sym same) two
    | inr not_2 ↦ elim (cases_eq l 3) [
      | inl same ↦ subst P (sym same) three
      | inr not_3 ↦ other l not_1 not_2 not_3
    ]
  ]
]

pub returns-clause-hooks : goal.returns-clause-hooks
returns-clause-hooks c = record {
  hooked = by_label (λ l. hook l ≢ l → IsHook path_edges (λ v. v) l (hook l) (win l)) (λ moves. hook_1) (λ moves. hook_2) (λ moves. hook_3)
      (λ l one two three moves. absurd (moves (stays l one two three)));
  listed = by_label (λ l. hook l ≢ l → Contains (1 ∷ 2 ∷ 3 ∷ 4 ∷ []) l) (λ moves. (0, omega arith, refl)) (λ moves. (1, omega arith, refl)) (λ moves. (2, omega arith, refl))
      (λ l one two three moves. absurd (moves (stays l one two three)));
  free = by_label (λ l. hook l ≡ l → (d : Edge) → Contains path_edges d → KeepsWithin (λ v. v) l d)
      (λ same. absurd (omega (arith, same))) (λ same. absurd (omega (arith, same))) (λ same. absurd (omega (arith, same)))
      (λ l one two three same. each (KeepsWithin (λ v. v) l)
      (λ h. absurd (one (sym h)), λ h. absurd (two (sym h)))
      (λ h. absurd (two (sym h)), λ h. absurd (three (sym h))));
}
