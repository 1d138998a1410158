-- Words that mean a plan, and words that mean none, computed from clap's own definition.
use Rattle.std.specs.Prelude.{ℕ, ◌≡◌, Some, None, [], codes, List}
use Rattle.pg_text.specs.Text.{words}
use Rattle.pg_words.specs.Plan.{Meaning, plan_of}
use Rattle.pg_words.specs.declared.plans.Algorithm.{Algorithm}
use Rattle.pg_words.specs.declared.plans.Algorithm.TheVariants.{Bfs, Sssp, Components, Forest, Colour, Grid}

-- This algorithm on this file from this source, with one rank and one thread, lanes of 1,024 messages, the block
-- distribution and no delta.
abbrev pub plain : Algorithm → List ℕ → ℕ → Meaning
plain algorithm file source = record { algorithm = algorithm; file = file; ranks = 1; threads = 1; parts = None; source = source; delta = 0; capacity = 1024; width = 0; height = 0; seed = 0 }

-- Least weights with buckets of this width.
abbrev pub weights_by : ℕ → List ℕ → ℕ → Meaning
weights_by delta file source = record (plain Sssp file source) { delta = delta }

-- Options stand anywhere, with `=` or without; two hyphens end them, also where nothing follows; one
-- hyphen is a name; a source of 0 is refused only once the graph is known.
abbrev pub TakesWords : Type 0
TakesWords =
    (plan_of (words (codes "bfs A --source 7")) ≡ Some (plain Bfs (codes "A") 7))
    × (plan_of (words (codes "--source=007 bfs A")) ≡ Some (plain Bfs (codes "A") 7))
    × (plan_of (words (codes "bfs --source 7 -- --ranks")) ≡ Some (plain Bfs (codes "--ranks") 7))
    × (plan_of (words (codes "bfs A --source 7 --")) ≡ Some (plain Bfs (codes "A") 7))
    × (plan_of (words (codes "bfs - --source 0")) ≡ Some (plain Bfs (codes "-") 0))

-- Least weights are found by buckets of the width 32 where no word says otherwise; components, forests and colours
-- have no source.
abbrev pub TakesAlgorithms : Type 0
TakesAlgorithms =
    (plan_of (words (codes "sssp A --source 3")) ≡ Some (weights_by 32 (codes "A") 3))
    × (plan_of (words (codes "sssp A --source 3 --delta 1")) ≡ Some (weights_by 1 (codes "A") 3))
    × (plan_of (words (codes "--delta=4294967295 sssp A --source 3")) ≡ Some (weights_by 4294967295 (codes "A") 3))
    × (plan_of (words (codes "components A")) ≡ Some (plain Components (codes "A") 0))
    × (plan_of (words (codes "forest A")) ≡ Some (plain Forest (codes "A") 0))
    × (plan_of (words (codes "colour A")) ≡ Some (plain Colour (codes "A") 0))

-- A grid of two columns and two rows, with buckets of this width.
abbrev pub small_grid : ℕ → Meaning
small_grid delta = record (plain Grid [] 0) { delta = delta; width = 2; height = 2; seed = 7 }

-- A grid takes no file. It may have a single vertex, and at most 1,048,576; the seed may be 0.
abbrev pub TakesGrids : Type 0
TakesGrids =
    (plan_of (words (codes "grid --width 2 --height 2 --seed 7")) ≡ Some (small_grid 32))
    × (plan_of (words (codes "--seed=7 --height=2 grid --width=2 --delta 1")) ≡ Some (small_grid 1))
    × (plan_of (words (codes "grid --width 2 --height 2 --seed 7 --ranks 4 --threads 2 --capacity 3")) ≡ Some (record (small_grid 32) { ranks = 4; threads = 2; capacity = 3 }))
    × (plan_of (words (codes "grid --width 2 --height 2 --seed 7 --ranks 4")) ≡ Some (record (small_grid 32) { ranks = 4; threads = 4 }))
    × (plan_of (words (codes "grid --width 1048576 --height 1 --seed 0")) ≡ Some (record (small_grid 32) { width = 1048576; height = 1; seed = 0 }))
    × (plan_of (words (codes "grid --width 1048577 --height 1 --seed 0")) ≡ None)
    × (plan_of (words (codes "grid --width 0 --height 2 --seed 7")) ≡ None)
    × (plan_of (words (codes "grid --width 2 --height 2")) ≡ None)

-- Each algorithm takes the common options. There are as many threads as ranks where no word says otherwise, and
-- there may be more; an empty value of `--parts` is the empty name.
abbrev pub TakesCommonOptions : Type 0
TakesCommonOptions =
    (plan_of (words (codes "bfs A --source 1 --ranks 1")) ≡ Some (plain Bfs (codes "A") 1))
    × (plan_of (words (codes "bfs A --source 1 --ranks=2")) ≡ Some (record (plain Bfs (codes "A") 1) { ranks = 2; threads = 2 }))
    × (plan_of (words (codes "bfs A --source 1 --ranks 32 --capacity 1")) ≡ Some (record (plain Bfs (codes "A") 1) { ranks = 32; threads = 32; capacity = 1 }))
    × (plan_of (words (codes "bfs A --source 1 --threads 32")) ≡ Some (record (plain Bfs (codes "A") 1) { threads = 32 }))
    × (plan_of (words (codes "bfs A --source 1 --parts=")) ≡ Some (record (plain Bfs (codes "A") 1) { parts = Some [] }))
    × (plan_of (words (codes "sssp A --source 1 --ranks 4 --threads=1")) ≡ Some (record (weights_by 32 (codes "A") 1) { ranks = 4 }))
    × (plan_of (words (codes "components A --ranks 4 --threads 2 --capacity 3 --parts P")) ≡ Some (record (plain Components (codes "A") 0) { ranks = 4; threads = 2; capacity = 3; parts = Some (codes "P") }))
    × (plan_of (words (codes "forest A --ranks 4 --parts P")) ≡ Some (record (plain Forest (codes "A") 0) { ranks = 4; threads = 4; parts = Some (codes "P") }))
    × (plan_of (words (codes "colour A --ranks=2 --capacity 1")) ≡ Some (record (plain Colour (codes "A") 0) { ranks = 2; threads = 2; capacity = 1 }))

-- A repeated option, a flag for help, a shortened name, a negative number, a value that begins with a
-- hyphen or is missing or stands after two hyphens, a second file, no file, and no words.
abbrev pub RefusesWords : Type 0
RefusesWords =
    (plan_of (words (codes "bfs A --source 7 --source=7")) ≡ None)
    × (plan_of (words (codes "--help")) ≡ None)
    × (plan_of (words (codes "bfs A --sourc=7")) ≡ None)
    × (plan_of (words (codes "bfs A --source -1")) ≡ None)
    × (plan_of (words (codes "bfs -A --source 1")) ≡ None)
    × (plan_of (words (codes "bfs A --source")) ≡ None)
    × (plan_of (words (codes "bfs A --source -- 1")) ≡ None)
    × (plan_of (words (codes "bfs A B --source 7")) ≡ None)
    × (plan_of (words (codes "bfs --source 7")) ≡ None)
    × (plan_of [] ≡ None)

-- Numbers outside their ranges.
abbrev pub RefusesNumbers : Type 0
RefusesNumbers =
    (plan_of (words (codes "bfs A --source 4294967296")) ≡ None)
    × (plan_of (words (codes "bfs A --source 1 --ranks 0")) ≡ None)
    × (plan_of (words (codes "bfs A --source 1 --ranks 33")) ≡ None)
    × (plan_of (words (codes "bfs A --source 1 --threads 0")) ≡ None)
    × (plan_of (words (codes "bfs A --source 1 --threads 33")) ≡ None)
    × (plan_of (words (codes "bfs A --source 1 --capacity 0")) ≡ None)
    × (plan_of (words (codes "bfs A --source 1 --capacity 1025")) ≡ None)
    × (plan_of (words (codes "sssp A --source 1 --delta 0")) ≡ None)
    × (plan_of (words (codes "sssp A --source 1 --delta 4294967296")) ≡ None)

-- A file or an option that belongs to another algorithm, and a source that is missing.
abbrev pub RefusesOtherOptions : Type 0
RefusesOtherOptions =
    (plan_of (words (codes "bfs A")) ≡ None)
    × (plan_of (words (codes "bfs A --source 1 --delta 4")) ≡ None)
    × (plan_of (words (codes "bfs A --source 1 --seed 7")) ≡ None)
    × (plan_of (words (codes "sssp A")) ≡ None)
    × (plan_of (words (codes "components A --source 1")) ≡ None)
    × (plan_of (words (codes "components A --delta 4")) ≡ None)
    × (plan_of (words (codes "forest A --source 1")) ≡ None)
    × (plan_of (words (codes "forest A --delta 4")) ≡ None)
    × (plan_of (words (codes "colour A --source 1")) ≡ None)
    × (plan_of (words (codes "colour A --delta 4")) ≡ None)
    × (plan_of (words (codes "grid A --width 2 --height 2 --seed 7")) ≡ None)
    × (plan_of (words (codes "grid --width 2 --height 2 --seed 7 --source 1")) ≡ None)
    × (plan_of (words (codes "grid --width 2 --height 2 --seed 7 --parts P")) ≡ None)

-- A name of no algorithm.
abbrev pub RefusesUnknownAlgorithms : Type 0
RefusesUnknownAlgorithms =
    (plan_of (words (codes "color A")) ≡ None)
    × (plan_of (words (codes "grids --width 2 --height 2 --seed 7")) ≡ None)
