-- Which words each algorithm takes.
use Rattle.std.specs.Prelude.{Bool, true, not, ◌&&◌, if◌then◌else◌, Option, Some, None, is_some, option_and_then, List, codes}
use Rattle.std.specs.Str.{bytes_eq}
use Rattle.clap.specs.Walk.{Row, Text}
use Rattle.pg_words.specs.CommandLine.{told}
use Rattle.pg_words.specs.declared.plans.Algorithm.{Algorithm}
use Rattle.pg_words.specs.declared.plans.Algorithm.TheVariants.{Bfs, Sssp, Components, Forest, Colour, Grid}
use Rattle.pg_words.specs.declared.plans.Need.{Need}
use Rattle.pg_words.specs.declared.plans.Need.TheVariants.{Required, Optional, Refused}

-- ---- the names of the algorithms

unfoldable pub algorithm_named : Text → Option Algorithm
algorithm_named word =
    if bytes_eq word (codes "bfs") then Some Bfs
    else if bytes_eq word (codes "sssp") then Some Sssp
    else if bytes_eq word (codes "components") then Some Components
    else if bytes_eq word (codes "forest") then Some Forest
    else if bytes_eq word (codes "colour") then Some Colour
    else if bytes_eq word (codes "grid") then Some Grid
    else None

-- ---- what each algorithm asks for, besides `--ranks`, `--threads` and `--capacity`, which each takes

abbrev pub file_need : Algorithm → Need
file_need Grid = Refused
file_need _ = Required

abbrev pub parts_need : Algorithm → Need
parts_need Grid = Refused
parts_need _ = Optional

abbrev pub source_need : Algorithm → Need
source_need Bfs = Required
source_need Sssp = Required
source_need _ = Refused

abbrev pub delta_need : Algorithm → Need
delta_need Sssp = Optional
delta_need Grid = Optional
delta_need _ = Refused

-- The width, the height and the seed.
abbrev pub size_need : Algorithm → Need
size_need Grid = Required
size_need _ = Refused

-- ---- whether the words are those

unfoldable pub algorithm_in : List Row → Option Algorithm
algorithm_in rows = option_and_then algorithm_named (told rows (codes "algorithm"))

abbrev pub is_met : Need → Option Text → Bool
is_met Required word = is_some word
is_met Optional word = true
is_met Refused word = not (is_some word)

-- The words on which files are read.
unfoldable pub fits_files : Algorithm → List Row → Bool
fits_files a rows = is_met (file_need a) (told rows (codes "file"))
    && is_met (parts_need a) (told rows (codes "parts"))

-- The words on what is computed.
unfoldable pub fits_task : Algorithm → List Row → Bool
fits_task a rows = is_met (source_need a) (told rows (codes "source"))
    && is_met (delta_need a) (told rows (codes "delta"))
    && is_met (size_need a) (told rows (codes "width"))
    && is_met (size_need a) (told rows (codes "height"))
    && is_met (size_need a) (told rows (codes "seed"))

unfoldable pub fits : Algorithm → List Row → Bool
fits a rows = fits_files a rows && fits_task a rows
