-- Lines that are taken together, and which stops come from a read that failed.
use Rattle.std.specs.Prelude.{⊤, ℕ, List}
use Rattle.pg_text.specs.declared.faults.TextFault.TheVariants.{Failed}
use Rattle.pg_metis.specs.declared.gathering.Stop.{Stop}
use Rattle.pg_metis.specs.declared.gathering.Stop.TheVariants.{Fault}
use Rattle.pg_metis.specs.Content.{NumberedLine}

-- P holds where no more lines were taken since a read failed.
abbrev pub OnFailedStop : Stop → Type 0 → Type 0
OnFailedStop (Fault Failed) P = P
OnFailedStop _ P = ⊤

-- The line of these bytes, with its number.
abbrev pub numbered_line : ℕ → List ℕ → NumberedLine
numbered_line number bytes = record { number = number; bytes = bytes }
