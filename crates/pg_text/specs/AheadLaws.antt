-- What follows from the definition of the lines within a limit.
use Rattle.std.specs.Prelude.{◌≡◌, ℕ, suc, ◌+◌, ◌<◌, ◌≤◌, List, [], ◌∷◌, ◌++◌, length}
use Rattle.pg_text.specs.Text.{lines}
use Rattle.pg_text.specs.Ahead.{lines_within}
use Rattle.pg_text.specs.Cuts.{HasNoNewline}

-- Within a limit that the text keeps are all of its lines.
abbrev pub ShortTextsAreWithin : Type 0
ShortTextsAreWithin = (limit : ℕ) (text : List ℕ) → length text ≤ limit → lines_within limit text ≡ lines text

-- A first line that keeps within the limit with its newline is followed by those within what is left of the limit.
abbrev pub LinesAreCounted : Type 0
LinesAreCounted = (line rest : List ℕ) (left : ℕ) → HasNoNewline line → lines_within (length line + suc left) (line ++ 10 ∷ rest) ≡ line ∷ lines_within left rest

-- A first line that holds a byte past the limit, its newline counted, is not within it.
abbrev pub LongLinesAreNotWithin : Type 0
LongLinesAreNotWithin = (line rest : List ℕ) (limit : ℕ) → HasNoNewline line → limit ≤ length line → limit < length (line ++ rest) → lines_within limit (line ++ rest) ≡ []
