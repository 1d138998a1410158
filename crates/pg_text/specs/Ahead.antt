-- The lines of a text that keep within a limit on its bytes.
-- Source: docs/FORMAT.md, the limit on files.
use Rattle.std.specs.Prelude.{ℕ, Bool, List, length, filter, take, nat_le, nat_lt, if◌then◌else◌}
use Rattle.pg_text.specs.Text.{lines, is_newline}

-- The lines before the first that holds a byte past the limit; a newline belongs to the line that it ends.
unfoldable pub lines_within : ℕ → List ℕ → List (List ℕ)
lines_within limit text = if nat_le (length text) limit then lines text else take (length (filter is_newline (take limit text))) (lines text)

-- The lines that keep within the limit, and whether a line that holds a byte past it follows them.
pub record Ahead : Type 0 where
  pub lines : List (List ℕ)
  pub overlong : Bool

abbrev pub ahead_within : ℕ → List ℕ → Ahead
ahead_within limit text = record { lines = lines_within limit text; overlong = nat_lt limit (length text) }
