-- The last two ports of a group of two, taken from it one after the other.
use Rattle.std.proofs.Common.{◌≡◌, ℕ, zero, suc, Bool, false, List, [], ◌∷◌, ◌++◌, length, map, get_or, replicate, refl, ap, ◌∙◌, arith, length-append}
use Rattle.std.specs.Prelude.{slice_get, Some}
use Rattle.pg_group.specs.Ranked.{flag_at, Wiring}
use Rattle.pg_group.specs.Grouped.{AreOneGroup}
use Rattle.pg_group.proofs.ByRank.{length_of_map}
use Rattle.pg_group.proofs.Growing.{push_before, push_last, entry_map}

clear_at : (n k : ℕ) → get_or (replicate n false) k false ≡ false
clear_at zero k = refl
clear_at (suc n) zero = refl
clear_at (suc n) (suc k) = clear_at n k

pub flag_clear : (flags : List Bool) (n k : ℕ) → flags ≡ replicate n false → flag_at flags k ≡ false
flag_clear flags n k e = ap (λ l. flag_at l k) e ∙ clear_at n k

module _ {P : Type 0} (xs ys zs : List P) (left right : P) (two : length xs ≡ 2) (first : xs ≡ ys ++ right ∷ []) (second : ys ≡ zs ++ left ∷ []) where
  one : length ys ≡ 1
  one = omega (arith, two, ap length first, length-append ys (right ∷ []))

  none : length zs ≡ 0
  none = omega (arith, one, ap length second, length-append zs (left ∷ []))

  pub popped_right : slice_get xs 1 ≡ Some right
  popped_right = ap (λ l. slice_get l 1) first ∙ push_last ys right 1 (omega (arith, one))

  pub popped_left : slice_get xs 0 ≡ Some left
  popped_left = ap (λ l. slice_get l 0) first ∙ push_before ys right 0 (omega (arith, one)) ∙ ap (λ l. slice_get l 0) second ∙ push_last zs left 0 (omega (arith, none))

pub stands_at : {P : Type 0} (ps : List P) (wiring : P → Wiring) (n r : ℕ) (p : P) → AreOneGroup (map wiring ps) → length ps ≡ n → slice_get ps r ≡ Some p
    → ((wiring p).own ≡ r) × ((wiring p).size ≡ n)
stands_at ps wiring n r p group long at =
    (group.ranks r (wiring p) (entry_map wiring ps r p at), group.sizes r (wiring p) (entry_map wiring ps r p at) ∙ length_of_map wiring ps ∙ long)
