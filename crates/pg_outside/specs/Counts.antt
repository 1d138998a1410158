-- Counts that are kept in a u64 and stand still at its end.
use Rattle.std.specs.Prelude.{ℕ, ◌+◌, ◌-◌, ◌^◌, min, Bool, true, false}

-- The count after one more.
abbrev pub counted : ℕ → ℕ
counted count = min (count + 1) (2 ^ 64 - 1)

-- The count of faults after a call: one more where the call failed.
abbrev pub counted_if : Bool → ℕ → ℕ
counted_if true count = counted count
counted_if false count = count
