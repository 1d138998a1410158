-- A list that stands only under a flag, with a default for each place otherwise.
use Rattle.std.proofs.Common.{◌≡◌, ◌≤◌, ℕ, Bool, true, false, cond, List, [], All, length, replicate, get_or, set, refl, sym, ap, ◌∙◌, subst, ⊎_elim, arith}
use Rattle.std.proofs.lemmas.Bool.{both_ways, cases_lt}
use Rattle.std.proofs.lemmas.List.{get_or-replicate, get_or_past, length-replicate, set-get_or}
use Rattle.std.proofs.lemmas.List.Elements.{All-replicate}

module _ {X : Type 0} where
  get_replicate : (n i : ℕ) (x : X) → get_or (replicate n x) i x ≡ x
  get_replicate n i x = ⊎_elim (λ lt. get_or-replicate n i x x lt) (λ ge. get_or_past (replicate n x) i x (let l = length-replicate n x in omega arith)) (cases_lt i n)

  pub all_get : (x : X) (xs : List X) (i : ℕ) → All (λ y. y ≡ x) xs → get_or xs i x ≡ x
  all_get x xs i h = ⊎_elim (λ lt. h i x lt) (λ ge. get_or_past xs i x ge) (cases_lt i (length xs))

  pub at_most : (f : Bool) (xs : List X) (n : ℕ) → (f ≡ true → length xs ≡ n) → (f ≡ false → xs ≡ []) → length xs ≤ n
  at_most true xs n t h = let e = t refl in omega arith
  at_most false xs n t h = let e : length xs ≡ 0 = ap length (h refl) in omega arith

  -- reading a place
  pub get_padded : (f : Bool) (xs : List X) (n i : ℕ) (x : X) → (f ≡ false → xs ≡ []) → get_or (cond f xs (replicate n x)) i x ≡ get_or xs i x
  get_padded true xs n i x h = refl
  get_padded false xs n i x h = get_replicate n i x ∙ sym (ap (λ ys. get_or ys i x) (h refl))

  -- writing the default
  pub set_padded : (f : Bool) (xs : List X) (n i : ℕ) (x : X) → cond f (set xs i x) (replicate n x) ≡ set (cond f xs (replicate n x)) i x
  set_padded true xs n i x = refl
  set_padded false xs n i x = sym (ap (λ y. set (replicate n x) i y) (sym (get_replicate n i x)) ∙ set-get_or (replicate n x) i x)

  pub all_unset : (f : Bool) (xs : List X) (n : ℕ) (x : X) → f ≡ false → All (λ y. y ≡ x) (cond f xs (replicate n x))
  all_unset f xs n x h = subst (λ g. All (λ y. y ≡ x) (cond g xs (replicate n x))) (sym h) (All-replicate (λ y. y ≡ x) n x refl)

-- where no ghost is noted
pub no_note : (f : Bool) (noted : List Bool) (n slot : ℕ) → (f ≡ false → noted ≡ []) → All (λ noted. noted ≡ false) (cond f noted (replicate n false)) → get_or noted slot false ≡ true → ⊥
no_note f noted n slot h all t =
    both_ways (get_or noted slot false) (sym (get_padded f noted n slot false h) ∙ all_get false (cond f noted (replicate n false)) slot all) t
