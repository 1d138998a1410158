-- What a contract sees of the words of a line that are taken one after another.
use Rattle.std.specs.Prelude.{ℕ, List}
use Rattle.pg_text.specs.declared.runs.Words.{Words}

-- The bytes whose words are not yet taken.
abbrev pub rest_of : Words → List ℕ
rest_of words = words.rest.now
