-- What a colouring shows of itself, and what it promises.
use Rattle.std.specs.Prelude.{◌≡◌, false, List}
use Rattle.pg_group.specs.declared.messages.Body.{Body}
use Rattle.pg_adj.specs.Portions.{Portion}
use Rattle.pg_cells.specs.declared.bodies.CellBody.{CellBody}
use Rattle.pg_cells.specs.Shown.{state_of as cells_of}
use Rattle.pg_colour.specs.declared.colouring.Colouring.{Colouring}
use Rattle.pg_colour.specs.LocalColour.{LocalColour, State}
use Rattle.pg_colour.specs.Rounds.{count_of}
use Rattle.pg_colour.specs.Seen.{at_places, at_slots}
use Rattle.pg_colour.specs.Steps.{IsOpening}

-- the part whose vertices it colours
abbrev pub part_in : Colouring → Portion
part_in c = c.part

abbrev pub state_of : Colouring → State
state_of c = record {
  round = count_of c.rounds;
  cast = c.cast;
  ended = c.ended;
  list = c.list.items;
  done = c.next;
  own = at_places (cells_of c.cells).own;
  seen = at_slots (cells_of c.cells).ghosts;
}

-- Nothing was called of it yet.
pub record IsNewColouring (c : Colouring) : Type 0 where
  pub opening : IsOpening c.part (state_of c)
  pub idle : c.idle ≡ false

-- The part stays, and the law of one rank's colouring holds over what was handled and sent.
pub record KeepsColoured (start : Colouring) (handled sent : List (List (Body CellBody))) (c : Colouring) : Type 0 where
  pub part : c.part ≡ start.part
  pub coloured : LocalColour c.part handled sent (state_of c)
