-- Words that are numbers, and words that are none.
use Rattle.std.proofs.Common.{◌≡◌, ℕ, Bool, true, false, Some, None, List, refl, if◌then◌else◌}
use Rattle.pg_text.specs.Text.{number, is_number, decimal_value}
use Rattle.pg_metis.specs.declared.faults.Kind.TheVariants.{BadNumber}
use Rattle.pg_metis.specs.Fault.{number_fault}

none-tells : (b : Bool) (value : ℕ) → (if b then Some value else None) ≡ None → b ≡ false
none-tells true value e = cc
none-tells false value e = refl

some-tells : (b : Bool) (value v : ℕ) → (if b then Some value else None) ≡ Some v → (b ≡ true) × (v ≡ value)
some-tells true value v e = (refl, cc)
some-tells false value v e = cc

pub not-number : (word : List ℕ) → number word ≡ None → is_number word ≡ false
unfolding number
not-number word e = none-tells (is_number word) (decimal_value word) e

-- A word that is no number.
pub no-number : (word : List ℕ) → number word ≡ None → number_fault word ≡ Some BadNumber
no-number word e = rw (not-number word e) refl

-- A word that is a number, and what it is worth.
pub number-is : (word : List ℕ) (v : ℕ) → number word ≡ Some v → (is_number word ≡ true) × (v ≡ decimal_value word)
unfolding number
number-is word v e = some-tells (is_number word) (decimal_value word) v e

pub is-number : (word : List ℕ) (v : ℕ) → is_number word ≡ true → v ≡ decimal_value word → number word ≡ Some v
unfolding number
is-number word v is same = rw (is, same) refl
