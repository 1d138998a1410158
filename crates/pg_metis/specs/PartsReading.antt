-- What each step of the reader of a partition file has taken and what it found.
use Rattle.std.specs.Prelude.{◌≡◌, ℕ, Option, Some, List, [], ◌∷◌, map}
use Rattle.pg_text.specs.Coming.{Told}
use Rattle.pg_text.specs.Text.{numbers, words}
use Rattle.pg_metis.specs.Ahead.{Passes}
use Rattle.pg_metis.specs.Content.{Content, NumberedLine}

-- The first line ahead was taken, and its one word is this number.
pub record TakesPart (part : ℕ) (before after : Option Content) : Type 0 where
  pub line : NumberedLine
  pub told : Told before after (Passes (line ∷ []))
  pub gives : numbers (words line.bytes) ≡ Some (part ∷ [])

-- The first lines ahead were taken, and their words are these numbers, one in each line.
pub record TakesParts (parts : List ℕ) (before after : Option Content) : Type 0 where
  pub lines : List NumberedLine
  pub told : Told before after (Passes lines)
  pub give : map (λ line. numbers (words line.bytes)) lines ≡ map (λ part. Some (part ∷ [])) parts
