-- The vote of a member that has ended, by the two numbers that it has of the pair's.
use Rattle.std.specs.Prelude.{◌≡◌, ℕ}

-- the greatest number that fits a vote
abbrev pub greatest : ℕ
greatest = 18_446_744_073_709_551_615

abbrev pub IsResting : ℕ → ℕ → Type 0
IsResting a b = (a ≡ greatest) × (b ≡ 0)
