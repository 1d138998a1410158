-- What the steps of a reader of lines take, and what they leave.
use Rattle.std.specs.Prelude.{◌≡◌, ℕ, ◌+◌, ◌<◌, Bool, true, false, Option, List, [], ◌∷◌, ◌++◌, length, if◌then◌else◌}
use Rattle.std.specs.Io.KnownBytes.{Consumes, IsAtEnd}
use Rattle.pg_text.specs.declared.readers.LineReader.{LineReader}
use Rattle.pg_text.specs.Coming.{held, bytes_ahead}
use Rattle.pg_text.specs.Cuts.{HasNoNewline}

-- The bytes of a newline that was met.
abbrev pub newline_if : Bool → List ℕ
newline_if ended = if ended then 10 ∷ [] else []

-- The reader took these bytes of the line, and its newline where it was met, and all that it held where not.
pub record TakesPart (ended : Bool) (old new : LineReader) : Type 0 where
  pub part : List ℕ
  pub plain : HasNoNewline part
  pub bytes : held old ≡ part ++ newline_if ended ++ held new
  pub line : new.line.items ≡ old.line.items ++ part
  pub room : new.room + (length part + length (newline_if ended)) ≡ old.room
  pub all : ended ≡ false → held new ≡ []

-- After a piece was read the reader holds a byte; where none was, none is left.
abbrev pub HasMore : Bool → LineReader → Option (List ℕ) → Type 0
HasMore true reader left = 0 < length (held reader)
HasMore false reader left = IsAtEnd (bytes_ahead reader left)

-- The line is the first of the bytes up to its newline, or all of them where there is none.
abbrev pub TakesTo : Bool → List ℕ → Option (List ℕ) → Option (List ℕ) → Type 0
TakesTo true line old new = Consumes old new (line ++ 10 ∷ [])
TakesTo false line old new = Consumes old new line × IsAtEnd new

-- From these bytes left to those, in this room, the reader took its line, with the newline where it was met.
pub record FillsLine (ended : Bool) (room : ℕ) (before : Option (List ℕ)) (new : LineReader) (after : Option (List ℕ)) : Type 0 where
  pub plain : HasNoNewline new.line.items
  pub bytes : TakesTo ended new.line.items before after
  pub left : new.room + (length new.line.items + length (newline_if ended)) ≡ room
