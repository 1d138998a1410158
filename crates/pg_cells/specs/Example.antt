-- A synchronize of two ranks that own one vertex each, with an edge between them. The greatest value wins, and the
-- first rank puts 5 to its ghost of the other's vertex.
use Rattle.std.specs.Prelude.{ℕ, ◌+◌, ◌-◌, true, false, List, [], ◌∷◌, Some, None}
use Rattle.std.proofs.Common.{refl}
use Rattle.pg_base.specs.Graph.{Graph}
use Rattle.pg_base.specs.Examples.{edge, graph}
use Rattle.pg_dist.specs.Sharing.{Sharing}
use Rattle.pg_adj.specs.Portions.{Portion}
use Rattle.pg_cells.specs.declared.bodies.CellBody.TheVariants.{Put as PutBody, Refresh}
use Rattle.pg_cells.specs.declared.flags.Flags.{Flags}
use Rattle.pg_cells.specs.declared.phases.Phase.TheVariants.{Filling}
use Rattle.pg_cells.specs.States.{CellState}
use Rattle.pg_cells.specs.Steps.{Event}
use Rattle.pg_cells.specs.Steps.Event.{put, handled, sent, closed, round_ended}

abbrev pub pair : Graph
pair = graph 2 (edge 1 2 1 ∷ [])

-- Vertex v is the only one of rank v - 1.
abbrev pub one_each : Sharing
one_each = record { n = 2; ranks = 2; owner = λ v. v - 1; local = λ v. 0; count = λ r. 1; global = λ r i. r + 1 }

-- The part of this rank with its vertex, and the other rank with its.
abbrev pub part_of : ℕ → ℕ → ℕ → ℕ → Portion
part_of rank own other there = record {
  rank = rank;
  ranks = 2;
  n = 2;
  vertices = own ∷ [];
  bounds = 0 ∷ 1 ∷ [];
  arcs = record { to = record { 0 = there }; home = record { 0 = other }; place = 0; w = 1; edge = 0 } ∷ [];
  ghosts = record { vertex = record { 0 = there }; home = record { 0 = other }; place = 0 } ∷ [];
  holder_bounds = 0 ∷ 1 ∷ [];
  holders = record { rank = record { 0 = other }; slot = 0 } ∷ [];
}

abbrev pub first : Portion
first = part_of 0 1 1 2

abbrev pub second : Portion
second = part_of 1 2 0 1

abbrev pub parts : List Portion
parts = first ∷ second ∷ []

-- forward and backward
abbrev pub both_ways : Flags
both_ways = record { forward = true; backward = true; flush = false; reset = false; clear = false; permitted = refl }

abbrev pub first_events : List Event
first_events = put 2 5 ∷ sent 1 (PutBody 0 5) ∷ closed ∷ round_ended ∷ sent 1 (Refresh 0 0) ∷ handled 1 (Refresh 0 5) ∷ round_ended ∷ []

abbrev pub second_events : List Event
second_events = handled 0 (PutBody 0 5) ∷ closed ∷ round_ended ∷ sent 0 (Refresh 0 5) ∷ handled 0 (Refresh 0 0) ∷ round_ended ∷ []

abbrev pub runs : List (List Event)
runs = first_events ∷ second_events ∷ []

-- The cells of a part at the end, with this own value and this value of the ghost.
abbrev pub cells_of : Portion → ℕ → ℕ → CellState
cells_of part own ghost_value = record {
  part = part;
  flags = both_ways;
  phase = Filling;
  own = own ∷ [];
  ghosts = Some ghost_value ∷ [];
  owed = None ∷ [];
  noted = false ∷ [];
  unsent = false ∷ [];
}

abbrev pub cells : List CellState
cells = cells_of first 0 5 ∷ cells_of second 5 0 ∷ []

-- Each cell starts at this value.
abbrev pub start : ℕ → ℕ
start v = 0
