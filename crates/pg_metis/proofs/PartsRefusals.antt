-- From the refusal of a step of the reader of partition files to that of the step that it is a part of.
use Rattle.std.proofs.Common.{ℕ, Bool, Err}
use Rattle.pg_text.specs.declared.faults.TextFault.{TextFault}
use Rattle.pg_text.specs.declared.faults.TextFault.TheVariants as text
use Rattle.pg_text.specs.Answers.{OnTooLong}
use Rattle.pg_metis.specs.declared.parts_faults.PartsFault.{PartsFault}
use Rattle.pg_metis.specs.declared.parts_faults.PartsFault.TheVariants.{Refused, Failed, OutOfMemory}
use Rattle.pg_metis.specs.declared.parts_faults.PartsKind.TheVariants.{TooLong}
use Rattle.pg_metis.specs.Parts.{FirstPartsFault}
use Rattle.pg_metis.specs.PartsAnswers.{OnPartsRefused, parts_from_text}

-- The exit of a step whose line was too long.
pub long-line-passed : (fault : TextFault) (P : ℕ → Type 0) (Q : FirstPartsFault → Type 0) → ((line : ℕ) → P line → Q (record { line = line; kind = TooLong })) → OnTooLong {A = Bool} (Err fault) P → OnPartsRefused {A = Bool} (Err (parts_from_text fault)) Q
long-line-passed text.Failed P Q f h = tt
long-line-passed (text.TooLong line) P Q f h = f line h
long-line-passed text.OutOfMemory P Q f h = tt

-- The exit of a step that was refused.
pub parts-refused-passed : (fault : PartsFault) (P Q : FirstPartsFault → Type 0) → ((f : FirstPartsFault) → P f → Q f) → OnPartsRefused {A = Bool} (Err fault) P → OnPartsRefused {A = Bool} (Err fault) Q
parts-refused-passed (Refused line kind) P Q f h = f (record { line = line; kind = kind }) h
parts-refused-passed Failed P Q f h = tt
parts-refused-passed OutOfMemory P Q f h = tt
