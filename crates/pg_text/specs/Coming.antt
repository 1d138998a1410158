-- What a reader of lines has ahead of it.
use Rattle.std.specs.Prelude.{◌≡◌, ℕ, Bool, true, false, Option, Some, None, List, ◌∷◌, [], ⊤, slice_range}
use Rattle.std.specs.Option.{option_map}
use Rattle.std.specs.Io.KnownBytes.{prepend_known}
use Rattle.pg_text.specs.Ahead.{Ahead, ahead_within}
use Rattle.pg_text.specs.declared.readers.LineReader.{LineReader}
use Rattle.pg_text.specs.declared.lines.Line.{Line}

-- How many lines were taken.
abbrev pub lines_taken : LineReader → ℕ
lines_taken reader = reader.lines

-- The line that was taken last.
abbrev pub line_taken : LineReader → List ℕ
line_taken reader = reader.line.items

-- The bytes that the reader holds and has not yet taken.
abbrev pub held : LineReader → List ℕ
held reader = slice_range reader.piece.items reader.start reader.end

-- The bytes not yet taken, where the input shows what it has left.
abbrev pub bytes_ahead : LineReader → Option (List ℕ) → Option (List ℕ)
bytes_ahead reader left = prepend_known (held reader) left

-- The lines not yet taken, where the input shows what it has left.
unfoldable pub coming : LineReader → Option (List ℕ) → Option Ahead
coming reader left = option_map (ahead_within reader.room) (bytes_ahead reader left)

-- Where it is known what was ahead, it is known what is ahead now, and the two are related like this.
abbrev pub Told : {X Y : Type 0} → Option X → Option Y → (X → Y → Type 0) → Type 0
Told None now P = ⊤
Told (Some x) None P = ⊥
Told (Some x) (Some y) P = P x y

-- The line was the first ahead; or, where there was none, none was and no line is overlong.
abbrev pub Takes : Bool → List ℕ → Ahead → Ahead → Type 0
Takes true line was now = (was.lines ≡ line ∷ now.lines) × (was.overlong ≡ now.overlong)
Takes false line was now = (was.lines ≡ []) × (was.overlong ≡ false)

-- No line is ahead, neither one within the limit nor an overlong one.
abbrev pub IsDone : Ahead → Type 0
IsDone now = (now.lines ≡ []) × (now.overlong ≡ false)

-- The line was the first ahead; or, where there was none, none was and none is.
abbrev pub Gives : Option Line → Ahead → Ahead → Type 0
Gives (Some line) was now = (was.lines ≡ line.bytes.items ∷ now.lines) × (was.overlong ≡ now.overlong)
Gives None was now = IsDone was × IsDone now
