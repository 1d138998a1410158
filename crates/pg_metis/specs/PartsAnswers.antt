-- Which answer the reader of partition files may give.
use Rattle.std.specs.Prelude.{◌≡◌, ⊤, Result, Ok, Err}
use Rattle.pg_metis.specs.declared.parts_faults.PartsFault.{PartsFault}
use Rattle.pg_metis.specs.declared.parts_faults.PartsFault.TheVariants.{Refused, Failed, OutOfMemory}
use Rattle.pg_metis.specs.declared.parts_faults.PartsKind.TheVariants.{TooLong as TooLongLine}
use Rattle.pg_text.specs.declared.faults.TextFault.{TextFault}
use Rattle.pg_text.specs.declared.faults.TextFault.TheVariants as text
use Rattle.pg_metis.specs.Parts.{FirstPartsFault}

-- What a fault of the text's lines is to the reader of a partition file.
abbrev pub parts_from_text : TextFault → PartsFault
parts_from_text text.Failed = Failed
parts_from_text (text.TooLong line) = Refused line TooLongLine
parts_from_text text.OutOfMemory = OutOfMemory

-- P holds of the fault where the answer is a refusal.
abbrev pub OnPartsRefused : {A : Type 0} → Result A PartsFault → (FirstPartsFault → Type 0) → Type 0
OnPartsRefused (Err (Refused line kind)) P = P (record { line = line; kind = kind })
OnPartsRefused _ P = ⊤

-- P holds where the answer is that a read failed.
abbrev pub OnPartsFailed : {A : Type 0} → Result A PartsFault → Type 0 → Type 0
OnPartsFailed (Err Failed) P = P
OnPartsFailed _ P = ⊤

-- The answer is this refusal, unless a read failed or memory was short.
abbrev pub ArePartsRefusedAs : {A : Type 0} → Result A PartsFault → FirstPartsFault → Type 0
ArePartsRefusedAs (Ok x) fault = ⊥
ArePartsRefusedAs (Err (Refused line kind)) fault = (line ≡ fault.line) × (kind ≡ fault.kind)
ArePartsRefusedAs (Err Failed) fault = ⊤
ArePartsRefusedAs (Err OutOfMemory) fault = ⊤

-- The answer is no refusal.
abbrev pub ArePartsNotRefused : {A : Type 0} → Result A PartsFault → Type 0
ArePartsNotRefused (Err (Refused line kind)) = ⊥
ArePartsNotRefused _ = ⊤
