-- What a giver of numbered lines has ahead of it.
use Rattle.std.specs.Prelude.{ℕ, Bool, Option, Some, None, List}
use Rattle.std.specs.Borrow.{GName}
use Rattle.std.specs.Option.{option_map}
use Rattle.pg_text.specs.Ahead.{Ahead, ahead_within}
use Rattle.pg_text.specs.Coming.{coming}
use Rattle.pg_text.specs.declared.readers.LineReader.{LineReader}
use Rattle.pg_text.specs.declared.lines.Lines.{Lines}

-- The lines ahead of a reader, or those of all that is left where there is none yet.
abbrev pub ahead_of : Option LineReader → ℕ → Option (List ℕ) → Option Ahead
ahead_of None limit left = option_map (ahead_within limit) left
ahead_of (Some reader) limit left = coming reader left

abbrev pub given_by : Option LineReader → ℕ
given_by None = 0
given_by (Some reader) = reader.lines

-- The lines not yet given, where the input shows what it has left.
unfoldable pub ahead : {I : Type 0} → Lines I → Option (List ℕ) → Option Ahead
ahead lines left = ahead_of lines.reader lines.limit left

-- How many lines were given.
unfoldable pub given : {I : Type 0} → Lines I → ℕ
given lines = given_by lines.reader

module _ {I : Type 0} where
  -- The input that they are taken from.
  abbrev pub input_of : Lines I → I
  input_of lines = lines.inputs.now

  -- The reference to that input.
  abbrev pub reference_of : Lines I → GName
  reference_of lines = lines.inputs.ghost_name

  -- How many bytes may be taken.
  abbrev pub limit_of : Lines I → ℕ
  limit_of lines = lines.limit

  -- No call of `next` answered an error so far.
  abbrev pub is_usable : Lines I → Bool
  is_usable lines = lines.usable
