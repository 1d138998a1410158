-- What is wrong with the line that was taken last, or with there being none.
use Rattle.std.specs.Prelude.{◌≡◌, ℕ, ◌+◌, Bool, true, false, Option, Some, List}
use Rattle.pg_text.specs.Text.{words}
use Rattle.pg_metis.specs.declared.faults.Kind.{Kind}
use Rattle.pg_metis.specs.declared.faults.LineFault.{LineFault}
use Rattle.pg_metis.specs.declared.parts_faults.PartsKind.{PartsKind}
use Rattle.pg_metis.specs.declared.parts_faults.PartsLineFault.{PartsLineFault}

-- The fault of a line with this number and these bytes, where there is one more, and else that it is missing,
-- one past the number of lines.
abbrev pub IsLineFault : (List (List ℕ) → Option Kind) → Kind → Bool → ℕ → List ℕ → LineFault → Type 0
IsLineFault fault_in missing true number bytes fault = (fault.line ≡ number) × (fault_in (words bytes) ≡ Some fault.kind)
IsLineFault fault_in missing false number bytes fault = (fault.line ≡ number + 1) × (fault.kind ≡ missing)

-- The same of a partition file.
abbrev pub IsPartsLineFault : (List (List ℕ) → Option PartsKind) → PartsKind → Bool → ℕ → List ℕ → PartsLineFault → Type 0
IsPartsLineFault fault_in missing true number bytes fault = (fault.line ≡ number) × (fault_in (words bytes) ≡ Some fault.kind)
IsPartsLineFault fault_in missing false number bytes fault = (fault.line ≡ number + 1) × (fault.kind ≡ missing)
