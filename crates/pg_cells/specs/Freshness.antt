-- What a synchronize leaves in the ghosts of all ranks and in the cells of their owners.
-- Source: the Parallel Boost Graph Library's distributed property maps; ghost cells after Gregor and Lumsdaine,
-- Lifting Sequential Graph Algorithms for Distributed-Memory Parallel Computation (OOPSLA 2005).
use Rattle.std.specs.Prelude.{◌≡◌, ℕ, ◌+◌, ◌<◌, true, List, [], Some, map, length, slice_get, slice_index_or, ◌==◌}
use Rattle.std.specs.List.{Contains, filter, fold}
use Rattle.pg_base.specs.Graph.{Graph}
use Rattle.pg_adj.specs.declared.arcs.Ghost.{Ghost}
use Rattle.pg_adj.specs.Portions.{Portion}
use Rattle.pg_dist.specs.Sharing.{Sharing, IsSharing}
use Rattle.pg_adj.specs.Division.{Divided}
use Rattle.pg_cells.specs.declared.flags.Flags.{Flags}
use Rattle.pg_cells.specs.States.{CellState, new_cells}
use Rattle.pg_cells.specs.Steps.Event.{closed}
use Rattle.pg_cells.specs.Steps.{Event}
use Rattle.pg_cells.specs.Runs.{Run, rounds, ends_a_round, events_of, handled_from, sent_to, puts_to}

-- the events of a rank; none where there is no such rank
abbrev pub events_at : List (List Event) → ℕ → List Event
events_at runs rank = slice_index_or runs rank []

-- the parts of one division
abbrev pub AreOfOneDivision : List Portion → Type 0
AreOfOneDivision parts = (s : Sharing) × (g : Graph) × IsSharing s × Divided s g parts

module _ (join : ℕ → ℕ → ℕ) (start : ℕ → ℕ) where
  -- The cells of all ranks, by rank, from new ones to the end of the round after the one in which all close: with
  -- backward, the refreshing one. Each rank handles in each round just what was sent to it there, in the order of
  -- each sender.
  pub record HaveSynchronized (flags : Flags) (parts : List Portion) (runs : List (List Event)) (cells : List CellState) : Type 0 where
    pub closing : ℕ
    pub each_run : length runs ≡ length parts
    pub each_cells : length cells ≡ length parts
    pub ran : (r : ℕ) (part : Portion) (s : CellState) → slice_get parts r ≡ Some part → slice_get cells r ≡ Some s
        → Run join start (new_cells start part flags) (events_at runs r) s
    pub all_rounds : (r : ℕ) → r < length parts → rounds (events_at runs r) ≡ closing + 2
    pub at_end : (r : ℕ) → r < length parts → ends_a_round (events_at runs r) ≡ true
    pub all_close : (r : ℕ) → r < length parts → Contains (events_of closing (events_at runs r)) closed
    pub delivered : (r from k : ℕ) → r < length parts → k < closing + 2
        → handled_from from (events_of k (events_at runs r)) ≡ sent_to r (events_of k (events_at runs from))

-- The home of a ghost holds the ghost's vertex at the ghost's place, and the ghost has the value of the cell there.
pub record IsFresh (cells : List CellState) (s : CellState) (slot : ℕ) (g : Ghost) : Type 0 where
  pub owner : CellState
  pub value : ℕ
  pub home : slice_get cells g.home.0 ≡ Some owner
  pub vertex : slice_get owner.part.vertices g.place ≡ Some g.vertex.0
  pub own_value : slice_get owner.own g.place ≡ Some value
  pub ghost_value : slice_get s.ghosts slot ≡ Some (Some value)

-- every ghost of every rank is its owner's cell
abbrev pub AreFresh : List CellState → Type 0
AreFresh cells = (r slot : ℕ) (s : CellState) (g : Ghost) → slice_get cells r ≡ Some s → slice_get s.part.ghosts slot ≡ Some g → IsFresh cells s slot g

-- A value with the rank that put it.
pub record RankedPut : Type 0 where
  pub rank : ℕ
  pub value : ℕ

-- the values of one rank, in order
abbrev pub values_of : ℕ → List RankedPut → List ℕ
values_of rank puts = map (λ p. p.value) (filter (λ p. p.rank == rank) puts)

module _ (join : ℕ → ℕ → ℕ) (start : ℕ → ℕ) where
  -- The value is the start value joined with every value that a rank put to the vertex, each once, and those of
  -- each rank in its order.
  abbrev pub HasJoinedAll : List (List Event) → ℕ → ℕ → Type 0
  HasJoinedAll runs v x = (puts : List RankedPut) × (x ≡ fold join (start v) (map (λ p. p.value) puts))
      × ((rank : ℕ) → values_of rank puts ≡ puts_to v (events_at runs rank))

  -- Each own cell has joined every put to its vertex, of all ranks.
  abbrev pub HaveJoinedAll : List (List Event) → List CellState → Type 0
  HaveJoinedAll runs cells = (r place v : ℕ) (s : CellState) → slice_get cells r ≡ Some s → slice_get s.part.vertices place ≡ Some v
      → (x : ℕ) × (slice_get s.own place ≡ Some x) × HasJoinedAll runs v x

  -- With backward, each ghost is its owner's cell after a synchronize.
  abbrev pub BackwardRefreshes : Type 0
  BackwardRefreshes = (flags : Flags) (parts : List Portion) (runs : List (List Event)) (cells : List CellState) → AreOfOneDivision parts
      → HaveSynchronized join start flags parts runs cells → flags.backward ≡ true → AreFresh cells

  -- With backward and forward, that cell has every put to a ghost of it joined in.
  abbrev pub ForwardJoins : Type 0
  ForwardJoins = (flags : Flags) (parts : List Portion) (runs : List (List Event)) (cells : List CellState) → AreOfOneDivision parts
      → HaveSynchronized join start flags parts runs cells → flags.backward ≡ true → flags.forward ≡ true → HaveJoinedAll runs cells
