-- The program of one rank whose property map holds degrees: what it shows, what its calls do, and what it promises of a
-- whole run.
use Rattle.std.specs.Prelude.{◌≡◌, ◌<◌, ℕ, true, false, max, List, [], None, length}
use Rattle.pg_group.specs.declared.messages.Body.{Body}
use Rattle.pg_group.specs.declared.messages.Body.TheVariants.{Item}
use Rattle.pg_group.specs.Ranked.{IsOther, append_at, list_at}
use Rattle.pg_group.specs.Rolls.{voted}
use Rattle.pg_group.specs.Rounds.{marks, items_of_round}
use Rattle.pg_adj.specs.Portions.{Portion}
use Rattle.pg_cells.specs.declared.bodies.CellBody.{CellBody}
use Rattle.pg_cells.specs.declared.phases.Phase.TheVariants.{Closing}
use Rattle.pg_cells.specs.Freshness.{BackwardRefreshes, ForwardJoins}
use Rattle.pg_cells.specs.Runs.{Run, rounds, ends_a_round, events_of, handled_from, sent_to, puts_to}
use Rattle.pg_cells.specs.Shown.{state_of}
use Rattle.pg_cells.specs.States.{CellState, new_cells}
use Rattle.pg_cells.specs.Steps.{Event, Sends, after_body}
use Rattle.pg_uses.specs.declared.neighbours.NeighbourDegrees.{NeighbourDegrees}
use Rattle.pg_uses.specs.DegreeMaps.{both_ways, no_degree, opening, round_in, rounds_before}

-- The part whose vertices' degrees it knows.
abbrev pub part_in : NeighbourDegrees → Portion
part_in p = p.part

-- The cells of its property map.
abbrev pub cells_in : NeighbourDegrees → CellState
cells_in p = state_of p.cells

-- Nothing was called of it yet.
pub record IsNewMap (p : NeighbourDegrees) : Type 0 where
  pub closing : (state_of p.cells).phase ≡ Closing
  pub idle : p.idle ≡ false
  pub cast : p.cast ≡ None
  pub ended : p.ended ≡ false

-- The new program of a part: the degrees of its own vertices are put to new cells, which are closed.
pub record IsMapOf (part : Portion) (p : NeighbourDegrees) : Type 0 where
  pub new : IsNewMap p
  pub same_part : p.part ≡ part
  pub opened : Run max no_degree (new_cells no_degree part both_ways) (opening part) (state_of p.cells)

-- One body of the map was sent to another rank.
pub record SendsBody (p : NeighbourDegrees) (lists : List (List (Body CellBody))) (q : NeighbourDegrees) (more : List (List (Body CellBody))) : Type 0 where
  pub to : ℕ
  pub body : CellBody
  pub other : IsOther p.part.rank p.part.ranks to
  pub sends : Sends (state_of p.cells) to body (state_of q.cells)
  pub grown : more ≡ append_at lists to (Item body)
  pub same_part : q.part ≡ p.part

-- The map took a body, unless the program had ended.
pub record HandlesBody (p : NeighbourDegrees) (from : ℕ) (body : CellBody) (q : NeighbourDegrees) : Type 0 where
  pub running : p.ended ≡ false → state_of q.cells ≡ after_body max no_degree body (state_of p.cells)
  pub after_end : p.ended ≡ true → q.cells ≡ p.cells
  pub same_part : q.part ≡ p.part

-- What a program keeps of a run. Events led from the map that it began with to the present one. Up to its end they
-- handled and sent, round by round, just what the program did. At the end a synchronize is over, and the map's laws of
-- that are at hand.
pub record KeepsMap (start : NeighbourDegrees) (heard told : List (List (Body CellBody))) (p : NeighbourDegrees) : Type 0 where
  pub same_part : p.part ≡ start.part
  pub from_each : length heard ≡ p.part.ranks
  pub to_each : length told ≡ p.part.ranks
  pub events : List Event
  pub ran : Run max no_degree (state_of start.cells) events (state_of p.cells)
  pub no_puts : (v : ℕ) → puts_to v events ≡ []
  pub rounds_are : rounds events ≡ rounds_before (state_of p.cells).phase
  pub ends : p.ended ≡ true → ends_a_round events ≡ true
  pub handles : (from k : ℕ) → k < 2 → handled_from from (events_of k events) ≡ items_of_round k (list_at heard from)
  pub sends : (to k : ℕ) → sent_to to (events_of k events) ≡ items_of_round k (list_at told to)
  pub marks_heard : (from : ℕ) → IsOther p.part.rank p.part.ranks from → marks (list_at heard from) ≡ rounds events
  pub marks_told : (to : ℕ) → IsOther p.part.rank p.part.ranks to → marks (list_at told to) ≡ voted (round_in (state_of p.cells).phase) p.cast
  pub refreshes : p.ended ≡ true → BackwardRefreshes max no_degree
  pub joins : p.ended ≡ true → ForwardJoins max no_degree
