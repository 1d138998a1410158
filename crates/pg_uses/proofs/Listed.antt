-- The list of a function's first values.
use Rattle.std.proofs.Common.{◌≡◌, ℕ, zero, suc, ◌<◌, ◌≤◌, List, [], ◌∷◌, length, refl, ap, arith}
use Rattle.std.specs.Prelude.{slice_index_or}

module _ {X : Type 0} where
  abbrev pub listed : (ℕ → X) → ℕ → List X
  listed f zero = []
  listed f (suc n) = f 0 ∷ listed (λ k. f (suc k)) n

  pub length-listed : (f : ℕ → X) (n : ℕ) → length (listed f n) ≡ n
  length-listed f zero = refl
  length-listed f (suc n) = ap suc (length-listed (λ k. f (suc k)) n)

  pub listed-at : (f : ℕ → X) (n k : ℕ) (d : X) → k < n → slice_index_or (listed f n) k d ≡ f k
  listed-at f zero k d h = absurd (omega (arith, h))
  listed-at f (suc n) zero d h = refl
  listed-at f (suc n) (suc k) d h = listed-at (λ j. f (suc j)) n k d (omega (arith, h))

  pub listed-past : (f : ℕ → X) (n k : ℕ) (d : X) → n ≤ k → slice_index_or (listed f n) k d ≡ d
  listed-past f zero k d h = refl
  listed-past f (suc n) zero d h = absurd (omega (arith, h))
  listed-past f (suc n) (suc k) d h = listed-past (λ j. f (suc j)) n k d (omega (arith, h))
