-- What the digits of a word are worth.
use Rattle.std.proofs.Common.{◌≡◌, ℕ, ◌+◌, ◌-◌, ◌*◌, ◌<◌, ◌≤◌, true, false, if◌then◌else◌, Some, None, List, length, drop, get_or, fold, refl, ap, ◌∙◌}
use Rattle.std.specs.List.{list_all}
use Rattle.std.proofs.lemmas.List.{at_drop_more, drop_all}
use Rattle.pg_text.specs.Text.{is_digit, decimal_value}

pub not_digits-at : (word : List ℕ) (i : ℕ) → i < length word → is_digit (get_or word i 0) ≡ false → list_all is_digit (drop i word) ≡ false
not_digits-at word i h other = at_drop_more (list_all is_digit) word i 0 h ∙ rw other refl

-- A byte is no digit.
pub no_value : (word : List ℕ) → list_all is_digit word ≡ false → None ≡ (if list_all is_digit word then Some (decimal_value word) else None)
no_value word other = rw other refl

-- Each byte is a digit, and they are worth v, as a loop over them leaves it.
pub value-at_end : (word : List ℕ) (v i : ℕ) → length word ≤ i → decimal_value word ≡ fold (λ value digit. 10 * value + (digit - 48)) v (drop i word) → list_all is_digit word ≡ list_all is_digit (drop i word)
    → Some v ≡ (if list_all is_digit word then Some (decimal_value word) else None)
value-at_end word v i past worth digits =
    let nil = drop_all i word past in
    let all : list_all is_digit word ≡ true = digits ∙ ap (list_all is_digit) nil in
    let is : decimal_value word ≡ v = worth ∙ rw nil refl in
    rw (all, is) refl
