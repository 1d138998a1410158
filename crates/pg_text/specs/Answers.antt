-- Which answer a reader of lines may give.
use Rattle.std.specs.Prelude.{ℕ, ⊤, Result, Err}
use Rattle.pg_text.specs.declared.faults.TextFault.{TextFault}
use Rattle.pg_text.specs.declared.faults.TextFault.TheVariants.{TooLong, Failed}

-- P holds of the line where the answer is that a line is too long.
abbrev pub OnTooLong : {A : Type 0} → Result A TextFault → (ℕ → Type 0) → Type 0
OnTooLong (Err (TooLong line)) P = P line
OnTooLong _ P = ⊤

-- P holds where the answer is that a read failed.
abbrev pub OnFailed : {A : Type 0} → Result A TextFault → Type 0 → Type 0
OnFailed (Err Failed) P = P
OnFailed _ P = ⊤
