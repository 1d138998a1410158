-- What a file holds for its reader: the lines that aren't comments, by their numbers.
-- Source: METIS 5.1 manual, section 4.1.1, in the profile of docs/FORMAT.md.
use Rattle.std.specs.Prelude.{ℕ, ◌+◌, Bool, List, [], ◌∷◌, length, filter, not}
use Rattle.pg_metis.specs.declared.TheConstants.{MAX_FILE_BYTES}
use Rattle.pg_text.specs.Text.{is_comment}
use Rattle.pg_text.specs.Ahead.{Ahead, ahead_within}

pub record NumberedLine : Type 0 where
  pub number : ℕ
  pub bytes : List ℕ

-- The lines with their numbers, which begin with this one.
abbrev pub numbered : ℕ → List (List ℕ) → List NumberedLine
numbered first [] = []
numbered first (line ∷ rest) = record { number = first; bytes = line } ∷ numbered (first + 1) rest

-- The lines that are no comments and stand before the first line past the limit; how many lines stand before
-- it, comments among them; and whether there is one.
pub record Content : Type 0 where
  pub lines : List NumberedLine
  pub count : ℕ
  pub overlong : Bool

-- The content of what is ahead of a reader that took so many lines.
abbrev pub content_after : ℕ → Ahead → Content
content_after taken ahead = record { lines = filter (λ line. not (is_comment line.bytes)) (numbered (taken + 1) ahead.lines); count = taken + length ahead.lines; overlong = ahead.overlong }

unfoldable pub content_of : List ℕ → Content
content_of text = content_after 0 (ahead_within MAX_FILE_BYTES text)
