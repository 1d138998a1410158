-- The least colour that no neighbour has is at most the number of neighbours.
use Rattle.std.proofs.Common.{◌≡◌, ◌==◌, ◌||◌, ℕ, zero, suc, ◌+◌, ◌<◌, ◌≤◌, Bool, true, false, cond, List, [], ◌∷◌, Option, Some, None, sym, ◌∙◌, ap, subst, refl, inl, inr, ⊎_elim, ◌⊎◌, arith}
use Rattle.std.proofs.lemmas.Bool.{cases_eq, cases_Bool, eq-eqb, ne_eqb, false≢true}
use Rattle.std.proofs.lemmas.List.Sums.{sum_by-cons}
use Rattle.pg_base.specs.declared.edges.Edge.{Edge}
use Rattle.pg_base.specs.Colouring.{degree}
use Rattle.pg_proper.specs.Passes.{Colours, IsTaken, IsLeastFree, with_colour}
use Rattle.pg_proper.specs.PassLaws.{PassKeepsBounded}
use Rattle.pg_base.proofs.Members.{contains_cases}
use Rattle.pg_proper.proofs.PassLemmas.{colour_cases}

abbrev pub one_if : Bool → ℕ
one_if t = cond t 1 0

-- How many numbers below c are in a set.
pub present : ℕ → (ℕ → Bool) → ℕ
present zero set = 0
present (suc c) set = one_if (set c) + present c set

pub without : (ℕ → Bool) → ℕ → ℕ → Bool
without set x d = cond (d == x) false (set d)

pub without_it : (set : ℕ → Bool) (x : ℕ) → without set x x ≡ false
unfolding without
without_it set x = ap (λ (t : Bool). cond t false (set x)) (eq-eqb x x refl)

pub without_other : (set : ℕ → Bool) (x d : ℕ) → (d ≡ x → ⊥) → without set x d ≡ set d
unfolding without
without_other set x d apart = ap (λ (t : Bool). cond t false (set d)) (ne_eqb d x apart)

one_or_none : (t : Bool) → one_if t ≤ 1
one_or_none true = omega arith
one_or_none false = omega arith

present_past : (c : ℕ) (set : ℕ → Bool) (x : ℕ) → c ≤ x → present c set ≡ present c (without set x)
unfolding present
present_past zero set x past = refl
present_past (suc c) set x past =
    let rest = present_past c set x (omega arith) in
    let here = ap one_if (without_other set x c (λ e. omega arith)) in
    omega (arith, rest, here)

-- Leaving out one number lowers the count by one at most.
pub present_without : (c : ℕ) (set : ℕ → Bool) (x : ℕ) → present c set ≤ 1 + present c (without set x)
unfolding present
present_without zero set x = omega arith
present_without (suc c) set x = elim (cases_eq c x) [
  | inl same ↦ let rest = present_past c set x (omega arith) in let one = one_or_none (set c) in omega (arith, rest, one)
  | inr apart ↦
      let rest = present_without c set x in
      let here = ap one_if (without_other set x c apart) in
      omega (arith, rest, here)
]

pub present_none : (c : ℕ) (set : ℕ → Bool) → ((d : ℕ) → d < c → set d ≡ true → ⊥) → present c set ≡ 0
unfolding present
present_none zero set none = refl
present_none (suc c) set none = elim (cases_Bool (set c)) [
  | inl among ↦ absurd (none c (omega arith) among)
  | inr not_in ↦
      let here = ap one_if not_in in
      let rest = present_none c set (λ d below. none d (omega arith)) in
      omega (arith, here, rest)
]

pub present_all : (c : ℕ) → present c (λ d. true) ≡ c
unfolding present
present_all zero = refl
present_all (suc c) = let rest = present_all c in omega (arith, rest)

-- The number of a colour, 0 where there is none.
number : Option ℕ → ℕ
number None = 0
number (Some c) = c

-- The end of e that isn't v.
other_end : Edge → ℕ → ℕ
other_end e v = cond (e.u == v) e.v e.u

other_is : (e : Edge) (v w : ℕ) → ((e.u ≡ v) × (e.v ≡ w)) ⊎ ((e.u ≡ w) × (e.v ≡ v)) → other_end e v ≡ w
unfolding other_end
other_is e v w (inl a) = ap (λ (t : Bool). cond t e.v e.u) (eq-eqb e.u v a.0) ∙ a.1
other_is e v w (inr b) = elim (cases_eq e.u v) [
  | inl loop ↦ ap (λ (t : Bool). cond t e.v e.u) (eq-eqb e.u v loop) ∙ (b.1 ∙ (sym loop ∙ b.0))
  | inr apart ↦ ap (λ (t : Bool). cond t e.v e.u) (ne_eqb e.u v apart) ∙ b.0
]

-- Whether v is an end of e.
abbrev meets : ℕ → Edge → Bool
meets v e = e.u == v || e.v == v

or_true : (s t : Bool) → (s ≡ true) ⊎ (t ≡ true) → (s || t) ≡ true
or_true true t h = refl
or_true false t (inl h) = absurd (false≢true h)
or_true false t (inr h) = h

meets_it : (e : Edge) (v w : ℕ) → ((e.u ≡ v) × (e.v ≡ w)) ⊎ ((e.u ≡ w) × (e.v ≡ v)) → meets v e ≡ true
meets_it e v w ends = or_true (e.u == v) (e.v == v) (⊎_elim (λ a. inl (eq-eqb e.u v a.0)) (λ b. inr (eq-eqb e.v v b.1)) ends)

degree_more : (e : Edge) (edges : List Edge) (v : ℕ) → degree (e ∷ edges) v ≡ one_if (meets v e) + degree edges v
degree_more e edges v = sum_by-cons (λ (d : Edge). one_if (meets v d)) e edges

-- A colour that is taken is taken over the first edge or over a later one.
taken_cases : (e : Edge) (edges : List Edge) (colours : Colours) (v d : ℕ) → IsTaken (e ∷ edges) colours v d
    → ((meets v e ≡ true) × (number (colours (other_end e v)) ≡ d)) ⊎ IsTaken edges colours v d
unfolding number
taken_cases e edges colours v d t =
    ⊎_elim
    (λ same.
    let ends = subst (λ (x : Edge). ((x.u ≡ v) × (x.v ≡ t.neighbour)) ⊎ ((x.u ≡ t.neighbour) × (x.v ≡ v))) (sym same) t.joined.ends in
    inl (meets_it e v t.neighbour ends, ap (λ (w : ℕ). number (colours w)) (other_is e v t.neighbour ends) ∙ ap number t.has))
    (λ later. inr (record { neighbour = t.neighbour; joined = record { edge = t.joined.edge; among = later; ends = t.joined.ends }; has = t.has }))
    (contains_cases e edges t.joined.edge t.joined.among)

-- Colours that are taken are at most as many as there are edges at v.
taken_few : (edges : List Edge) (colours : Colours) (v c : ℕ) (set : ℕ → Bool)
    → ((d : ℕ) → d < c → set d ≡ true → IsTaken edges colours v d) → present c set ≤ degree edges v
taken_few [] colours v c set taken =
    let none = present_none c set (λ d below among. omega (arith, (taken d below among).joined.among.1)) in omega (arith, none)
taken_few (e ∷ edges) colours v c set taken = elim (cases_Bool (meets v e)) [
  | inl met ↦
      let x = number (colours (other_end e v)) in
      let rest = taken_few edges colours v c (without set x) (λ d below among.
      elim (cases_eq d x) [
        | inl same ↦ absurd (false≢true (sym (without_it set x) ∙ subst (λ (y : ℕ). without set x y ≡ true) same among))
        | inr apart ↦
            ⊎_elim (λ here. absurd (apart (sym here.1))) (λ later. later)
            (taken_cases e edges colours v d (taken d below (sym (without_other set x d apart) ∙ among)))
      ]) in
      let less = present_without c set x in
      let more = degree_more e edges v in
      let one = ap one_if met in
      omega (arith, rest, less, more, one)
  | inr passed ↦
      let rest = taken_few edges colours v c set (λ d below among.
      ⊎_elim (λ here. absurd (false≢true (sym passed ∙ here.0))) (λ later. later)
      (taken_cases e edges colours v d (taken d below among))) in
      let more = degree_more e edges v in
      let zero_here = ap one_if passed in
      omega (arith, rest, more, zero_here)
]

pub least_free_bounded : (edges : List Edge) (colours : Colours) (v c : ℕ) → IsLeastFree edges colours v c → c ≤ degree edges v
least_free_bounded edges colours v c fits =
    let few = taken_few edges colours v c (λ d. true) (λ d below e. fits.least d below) in
    let all = present_all c in
    omega (arith, few, all)

pub pass_keeps_bounded : PassKeepsBounded
pass_keeps_bounded edges own [] before after passes bounded =
    λ v c mine at. bounded v c mine (sym (passes v mine) ∙ at)
pass_keeps_bounded edges own (x ∷ list) before after passes bounded =
    pass_keeps_bounded edges own list (with_colour before x passes.0) after passes.2
    (λ v d mine at. ⊎_elim
    (λ here. subst (λ (k : ℕ). k ≤ degree edges v) here.1 (subst (λ (y : ℕ). passes.0 ≤ degree edges y) (sym here.0) (least_free_bounded edges before x passes.0 passes.1)))
    (λ there. bounded v d mine there.1)
    (colour_cases before x passes.0 v d at))
