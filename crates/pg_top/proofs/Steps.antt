-- What a step of a run answers, from what the calls below it ensure.
use Rattle.std.proofs.Common.{ℕ, Option, List, Result, Ok, Err, OnOk, OnErr}
use Rattle.std.specs.Io.KnownBytes.{Appends}
use Rattle.pg_outside.specs.Faults.{Rose}
use Rattle.pg_outside.specs.Written.{AppendsFront}
use Rattle.pg_outside.specs.declared.Failed.{Failed}
use Rattle.pg_print.proofs.Writing.{AppendsFront-all}
use Rattle.pg_top.specs.Run.{Reports}

-- What one write of a line leaves.
pub Reports-from_write : (r : Result Unit Failed) (before after : ℕ) (old new : Option (List ℕ)) (line : List ℕ) → OnOk r (Appends old new line) → OnErr r (AppendsFront old new line) → OnErr r (Rose before after) → Reports before after old new line
Reports-from_write (Ok x) before after old new line ok err cause = record { whole = λ _. ok; front = AppendsFront-all old new line ok }
Reports-from_write (Err e) before after old new line ok err cause = record { whole = λ none. absurd (none cause); front = err }
