-- A finished colouring of a divided graph: the programs, the lanes, and how they belong together.
-- Source: Boman, Bozdağ, Catalyurek, Gebremedhin and Manne, A scalable parallel graph coloring algorithm for distributed memory
-- computers (Euro-Par 2005).
use Rattle.std.specs.Prelude.{◌≡◌, ℕ, ◌+◌, ◌*◌, ◌<◌, ◌≤◌, true, false, List, [], length, map, slice_get, slice_index_or, Option, Some, None, option_and_then}
use Rattle.pg_base.specs.Graph.{Graph}
use Rattle.pg_lane.specs.declared.settling.Settled.{Settled}
use Rattle.pg_lane.specs.Settled.{settled_capacity}
use Rattle.pg_group.specs.declared.messages.Body.{Body}
use Rattle.pg_group.specs.declared.messages.Envelope.{Envelope}
use Rattle.pg_group.specs.Book.{PairLists, IsWhole, IsMarked}
use Rattle.pg_group.specs.Entries.{Each}
use Rattle.pg_group.specs.Ranked.{IsOther, list_at}
use Rattle.pg_run.specs.Lanes.{AreWhole, EachLane, sent_on, taken_on}
use Rattle.pg_dist.specs.Sharing.{Sharing}
use Rattle.pg_adj.specs.declared.arcs.Ghost.{Ghost}
use Rattle.pg_adj.specs.Portions.{Portion}
use Rattle.pg_adj.specs.Division.{Divided}
use Rattle.pg_cells.specs.declared.bodies.CellBody.{CellBody}
use Rattle.pg_colour.specs.declared.colouring.Colouring.{Colouring}
use Rattle.pg_colour.specs.LocalColour.{History, State}
use Rattle.pg_colour.specs.Passes.{no_colours}
use Rattle.pg_colour.specs.Refreshed.{AreSound}
use Rattle.pg_colour.specs.Shown.{IsNewColouring, KeepsColoured, part_in, state_of}
use Rattle.pg_colour.specs.Whole.{AreFresh, AreHistories, colour_in}

-- The program has ended, and has kept its promise from its opening state over the lists of the book.
pub record HasColoured (ranks rank : ℕ) (sent taken : PairLists CellBody) (start now : Colouring) : Type 0 where
  pub handled : List (List (Body CellBody))
  pub promised : List (List (Body CellBody))
  pub keeps : KeepsColoured start handled promised now
  pub ended : (state_of now).ended ≡ true
  pub handled_is : (from : ℕ) → IsOther rank ranks from → list_at handled from ≡ taken from rank
  pub sent_is : (to : ℕ) → IsOther rank ranks to → list_at promised to ≡ sent rank to

-- A program for each part, new over it, and a lane of this capacity for each sender and receiver. All that was sent was taken, and
-- each program has ended and kept its promise.
pub record IsColouringOver (ranks : ℕ) (parts : List Portion) (capacity : ℕ) (programs : List Colouring) (lanes : List (Settled (Envelope CellBody))) : Type 0 where
  pub openings : List Colouring
  pub opened : map part_in openings ≡ parts
  pub new : Each (λ rank p. IsNewColouring p) openings
  pub count : length programs ≡ ranks
  pub lane_for_each : AreWhole ranks lanes
  pub capacities : EachLane ranks lanes (λ lane. settled_capacity lane ≡ capacity)
  pub book : IsWhole ranks (sent_on ranks lanes) (taken_on ranks lanes)
  pub marks : IsMarked ranks (sent_on ranks lanes)
  pub kept : Each (λ rank p. (start : Colouring) → slice_get openings rank ≡ Some start → HasColoured ranks rank (sent_on ranks lanes) (taken_on ranks lanes) start p) programs

-- The same over the parts of a graph that is divided by a distribution.
pub record IsColouring (s : Sharing) (g : Graph) (capacity : ℕ) (programs : List Colouring) (lanes : List (Settled (Envelope CellBody))) : Type 0 where
  pub parts : List Portion
  pub divided : Divided s g parts
  pub run : IsColouringOver s.ranks parts capacity programs lanes

-- The colour that the program of the vertex's owner has at the vertex's place.
abbrev pub held_colour : Sharing → List Colouring → ℕ → Option ℕ
held_colour s programs v = option_and_then (λ p. colour_in ((state_of p).own (s.local v))) (slice_get programs (s.owner v))

-- Place v - 1 holds the colour of v.
pub record AreHeld (s : Sharing) (programs : List Colouring) (colours : List (Option ℕ)) : Type 0 where
  pub count : length colours ≡ s.n
  pub each : (v : ℕ) → v < s.n → slice_index_or colours v None ≡ held_colour s programs (v + 1)

-- The program of each vertex's owner has the vertex's place.
abbrev pub HavePlaces : Sharing → List Colouring → Type 0
HavePlaces s programs = (v : ℕ) (p : Colouring) → 1 ≤ v → v ≤ s.n → slice_get programs (s.owner v) ≡ Some p → s.local v < length (part_in p).vertices

-- Each ghost is seen with the colour that its owner has.
abbrev pub SeeOwners : Sharing → List Colouring → Type 0
SeeOwners s programs = (rank slot : ℕ) (p : Colouring) (remote : Ghost) → slice_get programs rank ≡ Some p → slice_get (part_in p).ghosts slot ≡ Some remote
    → held_colour s programs remote.vertex.0 ≡ colour_in ((state_of p).seen slot)

-- What the program of a rank shows; nothing where there is none.
abbrev pub shown_by : Option Colouring → State
shown_by None = record { round = 0; cast = None; ended = false; list = []; done = 0; own = no_colours; seen = no_colours }
shown_by (Some p) = state_of p

abbrev pub states_of : List Colouring → ℕ → State
states_of programs rank = shown_by (slice_get programs rank)

-- In each refreshing round that has ended, the lane from the home of a ghost carried exactly one refresh of it, with
-- the colour that the home had for it after the pass before. The histories are those that the ranks' promises speak of,
-- of the passes that they made, as nothing but refreshes from their homes was handled.
pub record AreKeptFresh (s : Sharing) (parts : List Portion) (programs : List Colouring) (lanes : List (Settled (Envelope CellBody))) : Type 0 where
  pub histories : ℕ → History
  pub told : AreHistories s parts (states_of programs) (sent_on s.ranks lanes) (taken_on s.ranks lanes) histories
  pub sound : (rank : ℕ) (p : Portion) (at : slice_get parts rank ≡ Some p) → AreSound p (told rank p at).0.handled
  pub refreshed : (rank j : ℕ) → rank < s.ranks → 2 * j + 1 < (states_of programs rank).round → AreFresh parts histories (sent_on s.ranks lanes) j
