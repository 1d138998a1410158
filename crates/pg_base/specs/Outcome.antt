-- The exit status that each outcome of a run ends with.
use Rattle.std.specs.Prelude.{◌≡◌, ℕ}
use Rattle.pg_base.specs.declared.outcomes.Status.{Status}
use Rattle.pg_base.specs.declared.outcomes.Status.TheVariants.{Ok, BadWords, BadGraph, BadParts, ReadFault, WriteFault, NoMemory, BadSource}

abbrev pub status_number : Status → ℕ
status_number Ok = 0
status_number BadWords = 2
status_number BadGraph = 3
status_number BadParts = 4
status_number ReadFault = 5
status_number WriteFault = 6
status_number NoMemory = 7
status_number BadSource = 8

-- No two outcomes have the same exit status.
abbrev pub StatusesDiffer : Type 0
StatusesDiffer = (s t : Status) → status_number s ≡ status_number t → s ≡ t
