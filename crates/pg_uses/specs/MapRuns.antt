-- A whole run of the programs that synchronize a map of degrees, and what they know at its end.
use Rattle.std.specs.Prelude.{◌≡◌, ◌↔◌, ◌<◌, ℕ, true, List, [], Option, Some, length, slice_get, slice_index}
use Rattle.pg_base.specs.Colouring.{AreJoined, degree}
use Rattle.pg_base.specs.Graph.{Graph}
use Rattle.pg_lane.specs.declared.settling.Settled.{Settled}
use Rattle.pg_group.specs.declared.messages.Body.{Body}
use Rattle.pg_group.specs.declared.messages.Envelope.{Envelope}
use Rattle.pg_group.specs.Book.{PairLists, IsWhole, IsMarked}
use Rattle.pg_group.specs.Entries.{Each}
use Rattle.pg_group.specs.Ranked.{IsOther, list_at}
use Rattle.pg_run.specs.Lanes.{sent_on, taken_on}
use Rattle.pg_dist.specs.Sharing.{Sharing}
use Rattle.pg_adj.specs.Portions.{Portion}
use Rattle.pg_adj.specs.Division.{Divided}
use Rattle.pg_cells.specs.declared.bodies.CellBody.{CellBody}
use Rattle.pg_cells.specs.Shown.{state_of}
use Rattle.pg_cells.specs.States.{IsValueOf}
use Rattle.pg_uses.specs.declared.neighbours.NeighbourDegrees.{NeighbourDegrees}
use Rattle.pg_uses.specs.DegreeMaps.{HasNeighbours, LeadsTo}
use Rattle.pg_uses.specs.Synchronizing.{IsMapOf, KeepsMap}

-- Each vertex that has a cell here, an own one or a ghost, has its degree there.
abbrev pub HoldsDegrees : Graph → NeighbourDegrees → Type 0
HoldsDegrees g p = (v : ℕ) (value : Option ℕ) → IsValueOf (state_of p.cells) v value → value ≡ Some (degree g.edges v)

-- The part has the vertices that the rank owns, its arcs lead to their neighbours, and each of these is an own vertex
-- or a ghost.
pub record KnowsNeighbours (s : Sharing) (g : Graph) (rank : ℕ) (part : Portion) : Type 0 where
  pub count : length part.vertices ≡ s.count rank
  pub vertex : (place : ℕ) → place < s.count rank → slice_index part.vertices place ≡ s.global rank place
  pub joined : (place w : ℕ) → place < length part.vertices → LeadsTo part place w ↔ AreJoined g.edges (slice_index part.vertices place) w
  pub known : (place : ℕ) → place < length part.vertices → HasNeighbours part place

-- The program began as the part's, has ended, and has kept its promise over the lists of the book.
pub record HasKeptMap (ranks rank : ℕ) (sent taken : PairLists CellBody) (part : Portion) (p : NeighbourDegrees) : Type 0 where
  pub start : NeighbourDegrees
  pub is_map : IsMapOf part start
  pub heard : List (List (Body CellBody))
  pub told : List (List (Body CellBody))
  pub keeps : KeepsMap start heard told p
  pub ended : p.ended ≡ true
  pub own_heard : list_at heard rank ≡ []
  pub own_told : list_at told rank ≡ []
  pub heard_is : (from : ℕ) → IsOther rank ranks from → list_at heard from ≡ taken from rank
  pub told_is : (to : ℕ) → IsOther rank ranks to → list_at told to ≡ sent rank to

-- A program for each part, all of which have ended. All that was sent was taken, and each program has kept its promise.
pub record IsMapRunOver (parts : List Portion) (programs : List NeighbourDegrees) (lanes : List (Settled (Envelope CellBody))) : Type 0 where
  pub count : length programs ≡ length parts
  pub book : IsWhole (length parts) (sent_on (length parts) lanes) (taken_on (length parts) lanes)
  pub marks : IsMarked (length parts) (sent_on (length parts) lanes)
  pub kept : Each (λ rank p. (part : Portion) → slice_get parts rank ≡ Some part
      → HasKeptMap (length parts) rank (sent_on (length parts) lanes) (taken_on (length parts) lanes) part p) programs

-- The same over the parts of a graph that is divided by a distribution.
pub record IsMapRun (s : Sharing) (g : Graph) (programs : List NeighbourDegrees) (lanes : List (Settled (Envelope CellBody))) : Type 0 where
  pub parts : List Portion
  pub divided : Divided s g parts
  pub run : IsMapRunOver parts programs lanes
