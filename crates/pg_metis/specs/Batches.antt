-- Lines that were taken together, side by side in one list of bytes.
use Rattle.std.specs.Prelude.{◌≡◌, ◌≢◌, ◌≤◌, ◌+◌, ℕ, true, false, ⊤, Option, None, Result, Ok, Err, List, [], length, ◌++◌, map, slice_range, IfSome}
use Rattle.pg_text.specs.Coming.{Told}
use Rattle.pg_metis.specs.declared.faults.GraphFault.{GraphFault}
use Rattle.pg_metis.specs.declared.faults.GraphFault.TheVariants.{Refused}
use Rattle.pg_metis.specs.declared.faults.Kind.TheVariants.{MissingLines}
use Rattle.pg_metis.specs.Answers.{from_text}
use Rattle.pg_metis.specs.Fault.{lines_fault, named_arcs}
use Rattle.pg_text.specs.declared.faults.TextFault.TheVariants.{TooLong}
use Rattle.pg_metis.specs.declared.batches.PieceRows.{PieceRows}
use Rattle.pg_metis.specs.declared.gathering.Batch.{Batch}
use Rattle.pg_metis.specs.declared.gathering.LineAt.{LineAt}
use Rattle.pg_metis.specs.declared.gathering.Stop.{Stop}
use Rattle.pg_metis.specs.declared.gathering.Stop.TheVariants.{Full, End, Fault}
use Rattle.pg_metis.specs.Ahead.{Passes}
use Rattle.pg_metis.specs.Content.{Content, NumberedLine}
use Rattle.pg_metis.specs.File.{Header}
use Rattle.pg_metis.specs.Pieces.{AddsPiece, ArePieceRowsOf}

-- The line that stands at these places of the bytes.
abbrev pub line_of : List ℕ → LineAt → NumberedLine
line_of bytes at = record { number = at.number; bytes = slice_range bytes at.begin at.end }

abbrev pub lines_in : Batch → List NumberedLine
lines_in batch = map (line_of batch.bytes.items) batch.lines.items

-- The line stands within so many bytes.
pub record IsWithin (size : ℕ) (at : LineAt) : Type 0 where
  pub ordered : at.begin ≤ at.end
  pub within : at.end ≤ size

-- These lines were the first ahead.
pub record Begins (taken : List NumberedLine) (was : Content) : Type 0 where
  pub rest : List NumberedLine
  pub lines : was.lines ≡ taken ++ rest

-- Why no more lines were taken together with these: they are enough, and the content that is now ahead follows them; or they are all,
-- after so many lines with comments; or the next one is too long, or a read failed.
abbrev pub StopsAt : Stop → ℕ → List NumberedLine → Option Content → Option Content → Type 0
StopsAt Full number lines before after = (lines ≢ []) × Told before after (Passes lines)
StopsAt End number lines before after = IfSome before (λ was. (was.lines ≡ lines) × (was.overlong ≡ false) × (was.count ≡ number))
StopsAt (Fault (TooLong line)) number lines before after = IfSome before (λ was. (was.lines ≡ lines) × (was.overlong ≡ true) × (line ≡ was.count + 1))
StopsAt (Fault _) number lines before after = ⊤

-- The lines of the first v vertices were taken.
pub record ReadsPieceRows (header : Header) (v : ℕ) (rows : PieceRows) (before after : Option Content) : Type 0 where
  pub lines : List NumberedLine
  pub are : ArePieceRowsOf header v rows lines
  pub told : Told before after (Passes lines)

-- What a stop means where more lines of vertices are wanted, after so many lines with comments.
abbrev pub stopped : Stop → ℕ → Result ⊤ GraphFault
stopped Full count = Ok tt
stopped End count = Err (Refused (count + 1) MissingLines)
stopped (Fault fault) count = Err (from_text fault)

-- These lines follow those that were taken before, and what they say was added.
pub record TakesLines (header : Header) (old new : PieceRows) (lines : List NumberedLine) : Type 0 where
  pub faultless : lines_fault header (length old.numbers.items + 1) lines ≡ None
  pub arcs : AddsPiece old.pieces (named_arcs header.format (length old.numbers.items + 1) lines) new.pieces
  pub numbers : new.numbers.items ≡ old.numbers.items ++ map (λ line. line.number) lines

-- The lines of a batch were the first ahead.
pub record TakesBatch (header : Header) (old new : PieceRows) (before after : Option Content) : Type 0 where
  pub lines : List NumberedLine
  pub some : lines ≢ []
  pub few : length old.numbers.items + length lines ≤ header.n
  pub takes : TakesLines header old new lines
  pub told : Told before after (Passes lines)
