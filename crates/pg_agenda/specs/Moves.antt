-- Where the moves of places to lists leave each place, and when each was moved last.
use Rattle.std.specs.Prelude.{ℕ, suc, ◌==◌, if◌then◌else◌}
use Rattle.pg_agenda.specs.declared.moves.Moves.{Moves, None, OneMore'}

-- how many moves there were
abbrev pub total : Moves → ℕ
total None = 0
total (OneMore' place list marker before) = suc (total before)

-- the list to which a place was moved last; a place that wasn't moved is alone, as a list of its own
abbrev pub home : Moves → ℕ → ℕ
home None x = x
home (OneMore' place list marker before) x = if x == place then list else home before x

-- the number of the move that moved the place last, from 1
abbrev pub stamp : Moves → ℕ → ℕ
stamp None x = 0
stamp (OneMore' place list marker before) x = if x == place then suc (total before) else stamp before x
