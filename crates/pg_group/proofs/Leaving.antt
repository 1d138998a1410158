-- Lists that lose their last entries one after the other, in the order of the entries' numbers.
use Rattle.std.proofs.Common.{◌≡◌, inl, inr, ℕ, zero, suc, ◌+◌, ◌-◌, ◌<◌, ◌≤◌, List, [], ◌∷◌, ◌++◌, length, map, reverse, get_or, set, refl, sym, ap, ◌∙◌, subst, arith, length-append, length-set, get_or-set_same}
use Rattle.std.specs.Prelude.{slice_get, Option, Some, None}
use Rattle.std.proofs.lemmas.Bool.{cases_lt, cases_eq}
use Rattle.std.proofs.lemmas.List.{get_or-set_other, get_or-reverse, length-reverse}
use Rattle.std.proofs.lemmas.Option.{slice_get_past, slice_get_within, slice_get-get_or, get_or_from_slice_get, none-some, same_Some}
use Rattle.pg_group.specs.Entries.{Each}
use Rattle.pg_group.proofs.ByRank.{length_of_map}
use Rattle.pg_group.proofs.Growing.{push_before, push_last, entry_map}

none_unless : {X : Type 0} (o : Option X) → ((x : X) → o ≡ Some x → ⊥) → o ≡ None
none_unless None no_one = refl
none_unless (Some x) no_one = absurd (no_one x refl)

pub exists_at : {X : Type 0} (xs : List X) (k : ℕ) → k < length xs → (x : X) × (slice_get xs k ≡ Some x)
exists_at [] k h = absurd (omega arith)
exists_at (x ∷ xs) zero h = (x, refl)
exists_at (x ∷ xs) (suc k) h = exists_at xs k (omega arith)

-- n lists of w entries each
pub record IsTable {X : Type 0} (n w : ℕ) (xss : List (List X)) : Type 0 where
  pub count : length xss ≡ n
  pub rows : (t : ℕ) → t < n → length (get_or xss t []) ≡ w

module _ {X : Type 0} (n w : ℕ) (xss : List (List X)) (table : IsTable n w xss) where
  row_past : (yss : List (List X)) (k : ℕ) → length yss ≤ k → get_or yss k [] ≡ []
  row_past [] k h = refl
  row_past (ys ∷ yss) zero h = absurd (omega arith)
  row_past (ys ∷ yss) (suc k) h = row_past yss k (omega arith)

  -- an entry stands in one of the lists, within it
  pub entry_in : (t k : ℕ) (x : X) → slice_get (get_or xss t []) k ≡ Some x → (t < n) × (k < w)
  entry_in t k x at =
      elim (cases_lt t n) [
        | inl h ↦ let long = table.rows t h in let inside = slice_get_within (get_or xss t []) k x at in (h, omega arith)
        | inr h ↦ let count = table.count in absurd (none-some x (ap (λ l. slice_get l k) (sym (row_past xss t (omega arith))) ∙ at))
      ]

  pub entry_at : (t k : ℕ) → t < n → k < w → (x : X) × (slice_get (get_or xss t []) k ≡ Some x)
  entry_at t k t_in k_in = let long = table.rows t t_in in exists_at (get_or xss t []) k (omega arith)

pub table_of : {P X : Type 0} (f : P → List X) (ps : List P) (n w : ℕ) → length ps ≡ n → w ≡ n - 1 → Each (λ r p. length (f p) + 1 ≡ n) ps → IsTable n w (map f ps)
table_of f ps n w long size each = record {
  count = length_of_map f ps ∙ long;
  rows = λ t h.
      let found = exists_at ps t (omega arith) in
      let full = each t found.0 found.1 in
      ap length (get_or_from_slice_get (map f ps) t (f found.0) [] (entry_map f ps t found.0 found.1)) ∙ omega arith;
}

-- the list of the port that stands there
pub row_of : {P X : Type 0} (f : P → List X) (ps : List P) (r : ℕ) (p : P) → slice_get ps r ≡ Some p → get_or (map f ps) r [] ≡ f p
row_of f ps r p at = get_or_from_slice_get (map f ps) r (f p) [] (entry_map f ps r p at)

module _ {X : Type 0} (lane : ℕ → ℕ → ℕ) (olds : List (List X)) where
  -- The entries of the lanes with numbers below this one are left where they were, and no others.
  pub record AreLeft (number : ℕ) (news : List (List X)) : Type 0 where
    pub many : length news ≡ length olds
    pub below : (t k : ℕ) → lane t k < number → slice_get (get_or news t []) k ≡ slice_get (get_or olds t []) k
    pub above : (t k : ℕ) → number ≤ lane t k → slice_get (get_or news t []) k ≡ None

  pub all_left : (number : ℕ) → ((t k : ℕ) (x : X) → slice_get (get_or olds t []) k ≡ Some x → lane t k < number) → AreLeft number olds
  all_left number inside = record {
    many = refl;
    below = λ t k h. refl;
    above = λ t k h. none_unless (slice_get (get_or olds t []) k) (λ x at. let low = inside t k x at in omega arith);
  }

  -- The last entry x of list t is taken, at whose place k an entry y stood at first.
  module _ (number t k : ℕ) (x y : X) (zs : List X) (news : List (List X)) (left : AreLeft (number + 1) news) (here : lane t k ≡ number) (in_range : t < length olds)
      (was : slice_get (get_or olds t []) k ≡ Some y) (up : (i j : ℕ) → i < j → lane t i < lane t j)
      (apart : (u l : ℕ) (z : X) → slice_get (get_or olds u []) l ≡ Some z → lane u l ≡ number → u ≡ t) where
    still : slice_get (get_or news t []) k ≡ Some y
    still = left.below t k (omega arith) ∙ was

    pub some_left : 0 < length (get_or news t [])
    some_left = let inside = slice_get_within (get_or news t []) k y still in omega arith

    module _ (taken : get_or news t [] ≡ zs ++ x ∷ []) where
      last_at : slice_get (get_or news t []) (length zs) ≡ Some x
      last_at = ap (λ l. slice_get l (length zs)) taken ∙ push_last zs x (length zs) refl

      last_place : length zs ≡ k
      last_place =
          let inside : k < length zs + 1 = omega (arith, slice_get_within (get_or news t []) k y still, ap length taken, length-append zs (x ∷ [])) in
          elim (cases_lt k (length zs)) [
            | inl h ↦ absurd (none-some x (sym (left.above t (length zs) (omega (arith, up k (length zs) h))) ∙ last_at))
            | inr h ↦ omega arith
          ]

      pub is_last : x ≡ y
      is_last = same_Some x y (sym last_at ∙ ap (slice_get (get_or news t [])) last_place ∙ still)

      row_after : get_or (set news t zs) t [] ≡ zs
      row_after = let many = left.many in get_or-set_same news t zs [] (omega arith)

      below_after : (u l : ℕ) → lane u l < number → slice_get (get_or (set news t zs) u []) l ≡ slice_get (get_or olds u []) l
      below_after u l h =
          elim (cases_eq u t) [
            | inl e ↦ below_here u l e h
            | inr other ↦ ap (λ r. slice_get r l) (get_or-set_other news t u zs [] other) ∙ left.below u l (omega arith)
          ]
        where
          below_here : (u l : ℕ) → u ≡ t → lane u l < number → slice_get (get_or (set news t zs) u []) l ≡ slice_get (get_or olds u []) l
          below_here u l e h =
              let low : lane t l < number = subst (λ v. lane v l < number) e h in
              let early : l < length zs = early_at l low in
              subst (λ v. slice_get (get_or (set news t zs) v []) l ≡ slice_get (get_or olds v []) l) (sym e)
              (ap (λ r. slice_get r l) row_after ∙ sym (push_before zs x l early) ∙ ap (λ r. slice_get r l) (sym taken) ∙ left.below t l (omega arith))
            where
              early_at : (l : ℕ) → lane t l < number → l < length zs
              early_at l low =
                  elim (cases_lt l k) [
                    | inl h ↦ omega (arith, last_place)
                    | inr h ↦ elim (cases_lt k l) [
                      | inl g ↦ absurd (omega (arith, up k l g))
                      | inr g ↦ let same : l ≡ k = omega arith in absurd (omega (arith, ap (lane t) same))
                    ]
                  ]

      above_after : (u l : ℕ) → number ≤ lane u l → slice_get (get_or (set news t zs) u []) l ≡ None
      above_after u l h =
          elim (cases_eq u t) [
            | inl e ↦ above_here u l e h
            | inr other ↦ ap (λ r. slice_get r l) (get_or-set_other news t u zs [] other) ∙ above_other u l other h
          ]
        where
          late_at : (l : ℕ) → number ≤ lane t l → length zs ≤ l
          late_at l high =
              elim (cases_lt l k) [
                | inl h ↦ absurd (omega (arith, up l k h))
                | inr h ↦ omega (arith, last_place)
              ]

          above_here : (u l : ℕ) → u ≡ t → number ≤ lane u l → slice_get (get_or (set news t zs) u []) l ≡ None
          above_here u l e h =
              let late : length zs ≤ l = late_at l (subst (λ v. number ≤ lane v l) e h) in
              ap (λ v. slice_get (get_or (set news t zs) v []) l) e ∙ ap (λ r. slice_get r l) row_after ∙ slice_get_past zs l late

          above_other : (u l : ℕ) → (u ≡ t → ⊥) → number ≤ lane u l → slice_get (get_or news u []) l ≡ None
          above_other u l other h =
              elim (cases_lt number (lane u l)) [
                | inl more ↦ left.above u l (omega arith)
                | inr same ↦ left.below u l (omega arith) ∙ none_unless (slice_get (get_or olds u []) l) (λ z at. other (apart u l z at (omega arith)))
              ]

      pub one_less : AreLeft number (set news t zs)
      one_less = record { many = length-set news t zs ∙ left.many; below = below_after; above = above_after }

-- the entry at a place of a list, turned round
pub reversed_at : {X : Type 0} (xs : List X) (i j : ℕ) (x : X) → i + suc j ≡ length xs → slice_get xs j ≡ Some x → slice_get (reverse xs) i ≡ Some x
reversed_at xs i j x across at =
    let mirror : length xs - 1 - i ≡ j = omega arith in
    slice_get-get_or (reverse xs) i x (omega (arith, length-reverse xs))
    ∙ ap Some (get_or-reverse xs i x (omega arith) ∙ ap (λ k. get_or xs k x) mirror ∙ get_or_from_slice_get xs j x x at)
