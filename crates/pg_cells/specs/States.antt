-- What the cells of one rank hold: a value for each own vertex, and one for each ghost.
-- Source: the distributed property maps of the Parallel Boost Graph Library, with its names for the flags.
use Rattle.std.specs.Prelude.{◌≡◌, ◌⊎◌, ℕ, zero, suc, Bool, false, List, [], ◌++◌, Option, Some, None, All, length, map, replicate, slice_get, slice_index, slice_index_or}
use Rattle.pg_adj.specs.declared.arcs.Ghost.{Ghost}
use Rattle.pg_adj.specs.Portions.{Portion}
use Rattle.pg_base.specs.Keyed.{row_of}
use Rattle.pg_cells.specs.declared.refreshes.PendingRefresh.{PendingRefresh}
use Rattle.pg_cells.specs.declared.flags.Flags.{Flags}
use Rattle.pg_cells.specs.declared.phases.Phase.{Phase}
use Rattle.pg_cells.specs.declared.phases.Phase.TheVariants.{Filling, Closing, Refreshing}

-- an own cell goes to each of its holders: the place with the holder, in order
abbrev pub refreshes_at : Portion → ℕ → List PendingRefresh
refreshes_at part place = map (λ h. record { place = place; holder = h }) (row_of part.holder_bounds part.holders place)

-- the same for all places below this one
abbrev pub refreshes_below : Portion → ℕ → List PendingRefresh
refreshes_below part zero = []
refreshes_below part (suc place) = refreshes_below part place ++ refreshes_at part place

-- every own place with each of its holders
abbrev pub refreshes_of : Portion → List PendingRefresh
refreshes_of part = refreshes_below part (length part.vertices)

-- The cells over a part. Own cells are listed by place, ghosts by slot. What is owed to the ghosts' owners, and which
-- ghosts are noted, are listed by slot too. `unsent` says, in the order of these refreshes, which own cells are yet to
-- go to which holder.
pub record CellState : Type 0 where
  pub part : Portion
  pub flags : Flags
  pub phase : Phase
  pub own : List ℕ
  pub ghosts : List (Option ℕ)
  pub owed : List (Option ℕ)
  pub noted : List Bool
  pub unsent : List Bool

-- each ghost at its start value
abbrev pub started : (ℕ → ℕ) → Portion → List (Option ℕ)
started start part = map (λ g. Some (start g.vertex.0)) part.ghosts

-- each ghost emptied
abbrev pub emptied : Portion → List (Option ℕ)
emptied part = replicate (length part.ghosts) None

-- the new cells of a part: every cell holds its start value, and nothing is to be sent
abbrev pub new_cells : (ℕ → ℕ) → Portion → Flags → CellState
new_cells start part flags = record {
  part = part;
  flags = flags;
  phase = Filling;
  own = map start part.vertices;
  ghosts = started start part;
  owed = replicate (length part.ghosts) None;
  noted = replicate (length part.ghosts) false;
  unsent = replicate (length (refreshes_of part)) false;
}

-- the own vertex of a place
abbrev pub IsOwn : Portion → ℕ → ℕ → Type 0
IsOwn part v place = slice_get part.vertices place ≡ Some v

-- the ghost of a slot
abbrev pub IsGhost : Portion → ℕ → ℕ → Type 0
IsGhost part v slot = (g : Ghost) × (slice_get part.ghosts slot ≡ Some g) × (g.vertex.0 ≡ v)

-- a vertex that has a cell here
abbrev pub IsKnown : Portion → ℕ → Type 0
IsKnown part v = ((place : ℕ) × IsOwn part v place) ⊎ ((slot : ℕ) × IsGhost part v slot)

-- the value of a vertex here, none for a ghost that is emptied
abbrev pub IsValueOf : CellState → ℕ → Option ℕ → Type 0
IsValueOf s v value =
    ((place : ℕ) × IsOwn s.part v place × (value ≡ Some (slice_index s.own place)))
    ⊎ ((slot : ℕ) × IsGhost s.part v slot × (value ≡ slice_index_or s.ghosts slot None))

-- all that the phase asks for is sent: the puts that are owed, in Closing the noted ghosts, and in Refreshing every
-- own cell to each of its holders
pub record NothingLeft (s : CellState) : Type 0 where
  pub owed : All (λ owed. owed ≡ None) s.owed
  pub noted : s.phase ≡ Closing → All (λ noted. noted ≡ false) s.noted
  pub unsent : s.phase ≡ Refreshing → All (λ unsent. unsent ≡ false) s.unsent
