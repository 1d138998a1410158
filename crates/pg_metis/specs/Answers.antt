-- Which answer a reader of graph files may give.
use Rattle.std.specs.Prelude.{◌≡◌, ⊤, Result, Ok, Err}
use Rattle.pg_metis.specs.declared.faults.GraphFault.{GraphFault}
use Rattle.pg_metis.specs.declared.faults.GraphFault.TheVariants.{Refused, Failed, OutOfMemory}
use Rattle.pg_metis.specs.declared.faults.Kind.TheVariants.{TooLong as TooLongLine}
use Rattle.pg_text.specs.declared.faults.TextFault.{TextFault}
use Rattle.pg_text.specs.declared.faults.TextFault.TheVariants as text
use Rattle.pg_metis.specs.Fault.{Fault}

-- What a fault of the text's lines is to the reader of a graph.
abbrev pub from_text : TextFault → GraphFault
from_text text.Failed = Failed
from_text (text.TooLong line) = Refused line TooLongLine
from_text text.OutOfMemory = OutOfMemory

-- P holds of the fault where the answer is a refusal.
abbrev pub OnRefused : {A : Type 0} → Result A GraphFault → (Fault → Type 0) → Type 0
OnRefused (Err (Refused line kind)) P = P (record { line = line; kind = kind })
OnRefused _ P = ⊤

-- P holds where the answer is that a read failed.
abbrev pub OnFailed : {A : Type 0} → Result A GraphFault → Type 0 → Type 0
OnFailed (Err Failed) P = P
OnFailed _ P = ⊤

-- The answer is this refusal, unless a read failed or memory was short.
abbrev pub IsRefusedAs : {A : Type 0} → Result A GraphFault → Fault → Type 0
IsRefusedAs (Ok x) fault = ⊥
IsRefusedAs (Err (Refused l k)) fault = (l ≡ fault.line) × (k ≡ fault.kind)
IsRefusedAs (Err Failed) fault = ⊤
IsRefusedAs (Err OutOfMemory) fault = ⊤

-- The answer is no refusal.
abbrev pub IsNotRefused : {A : Type 0} → Result A GraphFault → Type 0
IsNotRefused (Err (Refused line kind)) = ⊥
IsNotRefused _ = ⊤
