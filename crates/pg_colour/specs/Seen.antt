-- What lists of cells hold, as functions of places and of slots.
use Rattle.std.specs.Prelude.{ℕ, List, Option, Some, None, slice_index_or}
use Rattle.pg_colour.specs.declared.TheConstants.{NO_COLOUR}
use Rattle.pg_colour.specs.Passes.{Cells}

-- The own cells by place.
abbrev pub at_places : List ℕ → Cells
at_places own = λ place. slice_index_or own place NO_COLOUR

-- What a ghost is seen with. An emptied one is seen without a colour.
abbrev pub colour_of : Option ℕ → ℕ
colour_of None = NO_COLOUR
colour_of (Some x) = x

-- The ghosts' cells by slot.
abbrev pub at_slots : List (Option ℕ) → Cells
at_slots ghosts = λ slot. colour_of (slice_index_or ghosts slot None)
