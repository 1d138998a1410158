-- The greatest of some numbers.
use Rattle.std.specs.Prelude.{◌≡◌, ◌≤◌, ◌⊎◌, ℕ}

-- The greatest number of which Q holds, or 0 where it holds of none.
pub record IsGreatest (Q : ℕ → Type 0) (x : ℕ) : Type 0 where
  pub bounds : (y : ℕ) → Q y → y ≤ x
  pub reached : (x ≡ 0) ⊎ Q x
