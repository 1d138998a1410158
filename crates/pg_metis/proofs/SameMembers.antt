-- Lists without repetition that have the same members are one another's permutations.
use Rattle.std.proofs.Common.{◌≡◌, Bool, true, false, cond, List, [], ◌∷◌, ◌++◌, filter, refl, sym, ap, subst, ⊎_elim, arith, AllPairs, Contains, IsPermutation}
use Rattle.std.specs.Prelude.{⊤}
use Rattle.std.proofs.lemmas.List.Elements.{All-contains, Contains-append_cases, Contains-append_left, Contains-append_right}
use Rattle.std.proofs.lemmas.List.Sorted.{IsPermutation-cons, IsPermutation-middle, IsPermutation-refl, IsPermutation-sym, IsPermutation-trans}
use Rattle.pg_base.proofs.Members.{Contains-filter, contains_cases, contains_first, contains_later}
use Rattle.pg_metis.proofs.ListLemmas.{AllPairs-head, AllPairs-tail}

module _ {X : Type 0} where
  -- No element stands twice.
  abbrev pub Once : List X → Type 0
  Once [] = ⊤
  Once (x ∷ xs) = (Contains xs x → ⊥) × Once xs

  -- Each two differ.
  pub Once-pairs : (R : X → X → Type 0) → ((x y : X) → R x y → x ≡ y → ⊥) → (xs : List X) → AllPairs R xs → Once xs
  Once-pairs R apart [] all = tt
  Once-pairs R apart (x ∷ xs) all = (
    λ c. apart x x (All-contains (R x) xs x (AllPairs-head R x xs all) c) refl,
    Once-pairs R apart xs (AllPairs-tail R x xs all),
  )

  filter_step : (x : X) (xs kept : List X) (passes : Bool) → (Contains kept x → Contains xs x) → (Contains xs x → ⊥) → Once kept → Once (cond passes (x ∷ kept) kept)
  filter_step x xs kept true leaves out once = (λ c. out (leaves c), once)
  filter_step x xs kept false leaves out once = once

  pub Once-filter : (p : X → Bool) (xs : List X) → Once xs → Once (filter p xs)
  Once-filter p [] once = tt
  Once-filter p (x ∷ xs) once = filter_step x xs (filter p xs) (p x) (λ c. (Contains-filter p xs x c).0) once.0 (Once-filter p xs once.1)

  -- The two parts round a member.
  parted : (xs : List X) (x : X) → Contains xs x → (before : List X) × (after : List X) × (xs ≡ before ++ x ∷ after)
  parted [] x c = absurd (omega (arith, c.1))
  parted (y ∷ xs) x c = ⊎_elim
      (λ same. ([], xs, ap (λ (z : X). z ∷ xs) same))
      (λ later. let parts = parted xs x later in (y ∷ parts.0, parts.1, ap (λ (zs : List X). y ∷ zs) parts.2))
      (contains_cases y xs x c)

  widened : (before : List X) (x : X) (after : List X) (y : X) → Contains (before ++ after) y → Contains (before ++ x ∷ after) y
  widened before x after y c = ⊎_elim
      (λ left. Contains-append_left before (x ∷ after) y left)
      (λ right. Contains-append_right before (x ∷ after) y (contains_later x after y right))
      (Contains-append_cases before after y c)

  narrowed : (before : List X) (x : X) (after : List X) (y : X) → (x ≡ y → ⊥) → Contains (before ++ x ∷ after) y → Contains (before ++ after) y
  narrowed before x after y other c = ⊎_elim
      (λ left. Contains-append_left before after y left)
      (λ right. ⊎_elim
      (λ same. absurd (other same))
      (λ later. Contains-append_right before after y later)
      (contains_cases x after y right))
      (Contains-append_cases before (x ∷ after) y c)

  -- Without one of its members a list doesn't have it any more.
  without : (before : List X) (x : X) (after : List X) → Once (before ++ x ∷ after) → Once (before ++ after) × (Contains (before ++ after) x → ⊥)
  without [] x after once = (once.1, once.0)
  without (b ∷ before) x after once =
      let rest = without before x after once.1 in (
        (λ c. once.0 (widened before x after b c), rest.0),
        λ c. ⊎_elim
            (λ same. once.0 (subst (Contains (before ++ x ∷ after)) (sym same) (Contains-append_right before (x ∷ after) x (contains_first x after))))
            (λ later. rest.1 later)
            (contains_cases b (before ++ after) x c),
      )

  pub same_members : (xs ys : List X) → Once xs → Once ys → ((z : X) → Contains xs z → Contains ys z) → ((z : X) → Contains ys z → Contains xs z) → IsPermutation xs ys
  same_members [] [] first second there back = IsPermutation-refl []
  same_members [] (y ∷ ys) first second there back = let c = back y (contains_first y ys) in absurd (omega (arith, c.1))
  same_members (x ∷ xs) ys first second there back =
      let parts = parted ys x (there x (contains_first x xs)) in
      let before = parts.0 in
      let after = parts.1 in
      let rest = without before x after (subst Once parts.2 second) in
      let there' : (z : X) → Contains xs z → Contains (before ++ after) z = λ z c. narrowed before x after z (λ same. first.0 (subst (Contains xs) (sym same) c)) (subst (λ (zs : List X). Contains zs z) parts.2 (there z (contains_later x xs z c))) in
      let back' : (z : X) → Contains (before ++ after) z → Contains xs z = λ z c. ⊎_elim
      (λ same. absurd (rest.1 (subst (Contains (before ++ after)) (sym same) c)))
      (λ later. later)
      (contains_cases x xs z (back z (subst (λ (zs : List X). Contains zs z) (sym parts.2) (widened before x after z c)))) in
      let moved = IsPermutation-cons x xs (before ++ after) (same_members xs (before ++ after) first.1 rest.0 there' back') in
      let back_in = IsPermutation-sym (before ++ x ∷ after) (x ∷ (before ++ after)) (IsPermutation-middle before x after) in
      subst (IsPermutation (x ∷ xs)) (sym parts.2) (IsPermutation-trans (x ∷ xs) (x ∷ (before ++ after)) (before ++ x ∷ after) moved back_in)
