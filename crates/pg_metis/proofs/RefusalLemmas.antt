-- From the refusal of a step to that of the step that it is a part of.
use Rattle.std.proofs.Common.{ℕ, Bool, Err}
use Rattle.pg_text.specs.declared.faults.TextFault.{TextFault}
use Rattle.pg_text.specs.declared.faults.TextFault.TheVariants as text
use Rattle.pg_text.specs.Answers.{OnTooLong}
use Rattle.pg_metis.specs.declared.faults.GraphFault.{GraphFault}
use Rattle.pg_metis.specs.declared.faults.GraphFault.TheVariants.{Refused, Failed, OutOfMemory}
use Rattle.pg_metis.specs.declared.faults.Kind.TheVariants.{TooLong}
use Rattle.pg_metis.specs.Answers.{OnRefused, from_text}
use Rattle.pg_metis.specs.Fault.{Fault}

-- The exit of a step whose line was too long, with the same fault.
pub too_long-weaker : (fault : TextFault) (P Q : ℕ → Type 0) → ((line : ℕ) → P line → Q line) → OnTooLong {A = Bool} (Err fault) P → OnTooLong {A = Bool} (Err fault) Q
too_long-weaker text.Failed P Q f h = tt
too_long-weaker (text.TooLong line) P Q f h = f line h
too_long-weaker text.OutOfMemory P Q f h = tt

-- The exit of a step whose line was too long.
pub too_long-passed : (fault : TextFault) (P : ℕ → Type 0) (Q : Fault → Type 0) → ((line : ℕ) → P line → Q (record { line = line; kind = TooLong })) → OnTooLong {A = Bool} (Err fault) P → OnRefused {A = Bool} (Err (from_text fault)) Q
too_long-passed text.Failed P Q f h = tt
too_long-passed (text.TooLong line) P Q f h = f line h
too_long-passed text.OutOfMemory P Q f h = tt

-- The exit of a step that was refused.
pub refused-passed : (fault : GraphFault) (P Q : Fault → Type 0) → ((f : Fault) → P f → Q f) → OnRefused {A = Bool} (Err fault) P → OnRefused {A = Bool} (Err fault) Q
refused-passed (Refused line kind) P Q f h = f (record { line = line; kind = kind }) h
refused-passed Failed P Q f h = tt
refused-passed OutOfMemory P Q f h = tt
