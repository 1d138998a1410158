-- A property map of degrees over one rank's part: what it begins with, its rounds, and what it says of neighbours.
use Rattle.std.specs.Prelude.{◌≡◌, ℕ, zero, suc, Bool, true, false, List, [], ◌∷◌, ◌++◌, Some, Contains, length, slice_index}
use Rattle.std.proofs.Common.{refl}
use Rattle.pg_base.specs.Keyed.{row_of}
use Rattle.pg_adj.specs.declared.arcs.Arc.{Arc}
use Rattle.pg_adj.specs.Portions.{Portion}
use Rattle.pg_cells.specs.declared.flags.Flags.{Flags}
use Rattle.pg_cells.specs.declared.phases.Phase.{Phase}
use Rattle.pg_cells.specs.declared.phases.Phase.TheVariants.{Filling, Closing, Refreshing}
use Rattle.pg_cells.specs.States.{CellState, IsKnown, IsValueOf}
use Rattle.pg_cells.specs.Steps.{Event}
use Rattle.pg_cells.specs.Steps.Event.{put, closed}

-- An arc leads from the own vertex at a place to w.
abbrev pub LeadsTo : Portion → ℕ → ℕ → Type 0
LeadsTo part place w = (arc : Arc) × Contains (row_of part.bounds part.arcs place) arc × (arc.to.0 ≡ w)

-- Each neighbour of the own vertex at a place has a cell here.
abbrev pub HasNeighbours : Portion → ℕ → Type 0
HasNeighbours part place = (w : ℕ) → LeadsTo part place w → IsKnown part w

-- A neighbour of the own vertex at a place has this value.
abbrev pub IsValueBeside : Portion → CellState → ℕ → ℕ → Type 0
IsValueBeside part cells place x = (w : ℕ) × LeadsTo part place w × IsValueOf cells w (Some x)

-- What each cell starts with.
abbrev pub no_degree : ℕ → ℕ
no_degree v = 0

-- Forward and backward.
abbrev pub both_ways : Flags
both_ways = record { forward = true; backward = true; flush = false; reset = false; clear = false; permitted = refl }

-- The degrees of the first places are put, one after another.
abbrev pub degree_puts : Portion → ℕ → List Event
degree_puts part zero = []
degree_puts part (suc place) = degree_puts part place ++ put (slice_index part.vertices place) (length (row_of part.bounds part.arcs place)) ∷ []

-- The degrees of all places are put, and the map is closed.
abbrev pub opening : Portion → List Event
opening part = degree_puts part (length part.vertices) ++ closed ∷ []

-- The round in a phase: the map is closed in the first one and refreshes in the second, which ends with phase Filling.
abbrev pub round_in : Phase → ℕ
round_in Closing = 0
round_in Refreshing = 1
round_in Filling = 1

-- How many rounds have ended.
abbrev pub rounds_before : Phase → ℕ
rounds_before Closing = 0
rounds_before Refreshing = 1
rounds_before Filling = 2

abbrev pub is_filling : Phase → Bool
is_filling Filling = true
is_filling Closing = false
is_filling Refreshing = false
