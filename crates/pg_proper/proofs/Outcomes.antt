-- A pass has one outcome, and depends on the colours of own vertices and their neighbours only.
use Rattle.std.proofs.Common.{◌≡◌, ℕ, suc, List, [], ◌∷◌, sym, ◌∙◌, subst, inl, inr, arith, All, Contains}
use Rattle.std.proofs.lemmas.Bool.{cases_eq, cases_lt}
use Rattle.pg_base.specs.declared.edges.Edge.{Edge}
use Rattle.pg_proper.specs.Passes.{Passes, Colours, IsTaken, IsLeastFree, with_colour, IsNear}
use Rattle.pg_proper.specs.PassLaws.{LeastFreeIsOne, PassIsOne, PassSeesNear}
use Rattle.pg_proper.proofs.PassLemmas.{at_it, at_other}

pub least_free_is_one : LeastFreeIsOne
least_free_is_one edges colours v c d first second = elim (cases_lt c d) [
  | inl less ↦ absurd (first.free (second.least c less))
  | inr most ↦ elim (cases_lt d c) [
    | inl more ↦ absurd (second.free (first.least d more))
    | inr least ↦ omega (arith, most, least)
  ]
]

taken_near : (edges : List Edge) (own : List ℕ) (before other : Colours) (x d : ℕ) → Contains own x
    → ((w : ℕ) → IsNear edges own w → other w ≡ before w) → IsTaken edges before x d → IsTaken edges other x d
taken_near edges own before other x d mine same t = record {
  neighbour = t.neighbour;
  joined = t.joined;
  has = same t.neighbour (inr (x, mine, t.joined)) ∙ t.has;
}

least_near : (edges : List Edge) (own : List ℕ) (before other : Colours) (x c : ℕ) → Contains own x
    → ((w : ℕ) → IsNear edges own w → other w ≡ before w) → IsLeastFree edges before x c → IsLeastFree edges other x c
least_near edges own before other x c mine same fits = record {
  free = λ t. fits.free (taken_near edges own other before x c mine (λ w near. sym (same w near)) t);
  least = λ d less. taken_near edges own before other x d mine same (fits.least d less);
}

with_same : (before other : Colours) (x c w : ℕ) → other w ≡ before w → with_colour other x c w ≡ with_colour before x c w
with_same before other x c w same = elim (cases_eq w x) [
  | inl here ↦ subst (λ (y : ℕ). with_colour other x c y ≡ with_colour before x c y) (sym here) (at_it other x c ∙ sym (at_it before x c))
  | inr apart ↦ at_other other x c w apart ∙ (same ∙ sym (at_other before x c w apart))
]

rest_within : (own : List ℕ) (x : ℕ) (list : List ℕ) → All (Contains own) (x ∷ list) → All (Contains own) list
rest_within own x list within k d below = within (suc k) d (omega arith)

pub pass_sees_near : PassSeesNear
pass_sees_near edges own [] before other after within same passes = λ v mine. passes v mine ∙ sym (same v (inl mine))
pass_sees_near edges own (x ∷ list) before other after within same passes =
    let c = passes.0 in (
      c,
      least_near edges own before other x c (within 0 0 (omega arith)) same passes.1,
      pass_sees_near edges own list (with_colour before x c) (with_colour other x c) after (rest_within own x list within)
          (λ w near. with_same before other x c w (same w near)) passes.2,
    )

outcome_is_one : (edges : List Edge) (own list : List ℕ) (before after changed : Colours) → Passes edges own list before after
    → Passes edges own list before changed → (v : ℕ) → Contains own v → changed v ≡ after v
outcome_is_one edges own [] before after changed first second v mine = second v mine ∙ sym (first v mine)
outcome_is_one edges own (x ∷ list) before after changed first second v mine =
    let same = least_free_is_one edges before x second.0 first.0 second.1 first.1 in
    outcome_is_one edges own list (with_colour before x first.0) after changed first.2
    (subst (λ (k : ℕ). Passes edges own list (with_colour before x k) changed) same second.2) v mine

pub pass_is_one : PassIsOne
pass_is_one edges own list before other after changed within same first second v mine =
    outcome_is_one edges own list other after changed (pass_sees_near edges own list before other after within same first) second v mine
