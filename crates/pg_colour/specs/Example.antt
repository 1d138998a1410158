-- Two ranks own one vertex each, with an edge between them. Both take colour 0; the greater end's rank finds the clash
-- and takes 1. And the same edge on one rank, which colours both ends in one pass.
-- Source: after Boman, Bozdağ, Catalyurek, Gebremedhin and Manne, A scalable parallel graph coloring algorithm for
-- distributed memory computers (Euro-Par 2005).
use Rattle.std.specs.Prelude.{ℕ, ◌+◌, ◌-◌, true, List, [], ◌∷◌, Some}
use Rattle.pg_group.specs.declared.messages.Body.{Body}
use Rattle.pg_group.specs.declared.messages.Body.TheVariants.{Item, Mark}
use Rattle.pg_group.specs.declared.messages.Vote.{Vote}
use Rattle.pg_group.specs.Book.{PairLists}
use Rattle.pg_dist.specs.Sharing.{Sharing}
use Rattle.pg_adj.specs.Portions.{Portion}
use Rattle.pg_cells.specs.declared.bodies.CellBody.{CellBody}
use Rattle.pg_cells.specs.declared.bodies.CellBody.TheVariants.{Refresh}
use Rattle.pg_colour.specs.Passes.{no_colours, with_cell}
use Rattle.pg_colour.specs.LocalColour.{State}

abbrev pub vote : ℕ → Vote
vote a = record { a = a; b = 0; c = 0; d = 0 }

-- What rank r sends. In the second pass rank 0 colours no vertex and rank 1 one, and from then on rank r's vertex has
-- the colour r.
abbrev pub lane_of : ℕ → List (Body CellBody)
lane_of r = Mark (vote 1) ∷ Item (Refresh 0 0) ∷ Mark (vote 1) ∷ Mark (vote r) ∷ Item (Refresh 0 r) ∷ Mark (vote 1) ∷ Mark (vote 0) ∷ []

abbrev pub lists : PairLists CellBody
lists sender receiver = lane_of sender

-- Both ranks end with the third pass. The other rank's vertex is seen with the other's colour.
abbrev pub state : ℕ → State
state r = record {
  round = 4;
  cast = Some (vote 0);
  ended = true;
  list = [];
  done = 0;
  own = with_cell no_colours 0 r;
  seen = with_cell no_colours 0 (1 - r);
}

-- One rank with both vertices.
abbrev pub lone : Sharing
lone = record { n = 2; ranks = 1; owner = λ v. 0; local = λ v. v - 1; count = λ r. 2; global = λ r i. i + 1 }

abbrev pub lone_part : Portion
lone_part = record {
  rank = 0;
  ranks = 1;
  n = 2;
  vertices = 1 ∷ 2 ∷ [];
  bounds = 0 ∷ 1 ∷ 2 ∷ [];
  arcs = record { to = record { 0 = 2 }; home = record { 0 = 0 }; place = 1; w = 1; edge = 0 }
      ∷ record { to = record { 0 = 1 }; home = record { 0 = 0 }; place = 0; w = 1; edge = 0 } ∷ [];
  ghosts = [];
  holder_bounds = 0 ∷ 0 ∷ 0 ∷ [];
  holders = [];
}

abbrev pub no_lists : PairLists CellBody
no_lists sender receiver = []

-- It ends with the second pass.
abbrev pub lone_state : State
lone_state = record {
  round = 2;
  cast = Some (vote 0);
  ended = true;
  list = [];
  done = 0;
  own = with_cell (with_cell no_colours 0 0) 1 1;
  seen = no_colours;
}
