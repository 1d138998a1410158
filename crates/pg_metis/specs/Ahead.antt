-- Which content a reader of lines has ahead of it, and what it takes of it.
use Rattle.std.specs.Prelude.{◌≡◌, ℕ, ◌+◌, Bool, true, false, Option, List, [], ◌∷◌, ◌++◌}
use Rattle.std.specs.Option.{option_map}
use Rattle.pg_text.specs.Coming.{coming}
use Rattle.pg_text.specs.declared.readers.LineReader.{LineReader}
use Rattle.pg_metis.specs.Content.{Content, NumberedLine, content_after}

-- The content ahead of a reader of lines, where the input makes known what it has left.
unfoldable pub content_ahead : LineReader → Option (List ℕ) → Option Content
content_ahead reader left = option_map (content_after reader.lines) (coming reader left)

-- These lines were taken, and the content that is now ahead follows them.
pub record Passes (taken : List NumberedLine) (was now : Content) : Type 0 where
  pub lines : was.lines ≡ taken ++ now.lines
  pub count : was.count ≡ now.count
  pub overlong : was.overlong ≡ now.overlong

-- The line of this number was the first ahead; or, after so many lines, none was and no line is overlong.
abbrev pub TakesContent : Bool → ℕ → List ℕ → Content → Content → Type 0
TakesContent true number line was now = Passes (record { number = number; bytes = line } ∷ []) was now
TakesContent false number line was now = (was.lines ≡ []) × (was.overlong ≡ false) × (was.count ≡ number)

-- No line is ahead but an overlong one, which has this number.
pub record IsPastLimit (at : ℕ) (was : Content) : Type 0 where
  pub none : was.lines ≡ []
  pub overlong : was.overlong ≡ true
  pub number : at ≡ was.count + 1
