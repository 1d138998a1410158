-- The events of a rank's cells, and what each of them changes.
-- Source: the Parallel Boost Graph Library's distributed property maps.
use Rattle.std.specs.Prelude.{◌≡◌, ◌⊎◌, ℕ, Bool, true, false, not, List, Option, Some, None, length, replicate, slice_get, slice_index, slice_index_or, slice_set, if◌then◌else◌}
use Rattle.pg_adj.specs.declared.arcs.Ghost.{Ghost}
use Rattle.pg_cells.specs.declared.refreshes.PendingRefresh.{PendingRefresh}
use Rattle.pg_cells.specs.declared.bodies.CellBody.{CellBody}
use Rattle.pg_cells.specs.declared.bodies.CellBody.TheVariants.{Put as PutBody, Refresh}
use Rattle.pg_cells.specs.declared.flags.Flags.{Flags}
use Rattle.pg_cells.specs.declared.phases.Phase.{Phase}
use Rattle.pg_cells.specs.declared.phases.Phase.TheVariants.{Filling, Closing, Refreshing}
use Rattle.pg_cells.specs.States.{CellState, IsOwn, IsGhost, NothingLeft, refreshes_of, started, emptied}

pub data Event : Type 0 where
  -- a value was put to a vertex
  put : ℕ → ℕ → Event
  -- a body from a rank was handled
  handled : ℕ → CellBody → Event
  -- a body was sent to a rank
  sent : ℕ → CellBody → Event
  closed : Event
  round_ended : Event

-- An owed put goes to the owner of its ghost.
pub record SendsOwed (s : CellState) (to : ℕ) (body : CellBody) (t : CellState) : Type 0 where
  pub slot : ℕ
  pub held : Ghost
  pub value : ℕ
  pub there : slice_get s.part.ghosts slot ≡ Some held
  pub owed : slice_get s.owed slot ≡ Some (Some value)
  pub home : to ≡ held.home.0
  pub body_is : body ≡ PutBody held.place value
  pub after : t ≡ record s { owed = slice_set s.owed slot None }

-- In phase Closing the value of a noted ghost goes to its owner.
pub record SendsNoted (s : CellState) (to : ℕ) (body : CellBody) (t : CellState) : Type 0 where
  pub slot : ℕ
  pub held : Ghost
  pub value : ℕ
  pub closing : s.phase ≡ Closing
  pub there : slice_get s.part.ghosts slot ≡ Some held
  pub noted : slice_get s.noted slot ≡ Some true
  pub cell : slice_get s.ghosts slot ≡ Some (Some value)
  pub home : to ≡ held.home.0
  pub body_is : body ≡ PutBody held.place value
  pub after : t ≡ record s { noted = slice_set s.noted slot false }

-- In phase Refreshing the value of an own cell goes to one of its holders.
pub record SendsRefresh (s : CellState) (to : ℕ) (body : CellBody) (t : CellState) : Type 0 where
  pub entry : ℕ
  pub pending : PendingRefresh
  pub refreshing : s.phase ≡ Refreshing
  pub there : slice_get (refreshes_of s.part) entry ≡ Some pending
  pub unsent : slice_get s.unsent entry ≡ Some true
  pub rank : to ≡ pending.holder.rank.0
  pub body_is : body ≡ Refresh pending.holder.slot (slice_index s.own pending.place)
  pub after : t ≡ record s { unsent = slice_set s.unsent entry false }

abbrev pub Sends : CellState → ℕ → CellBody → CellState → Type 0
Sends s to body t = SendsOwed s to body t ⊎ (SendsNoted s to body t ⊎ SendsRefresh s to body t)

-- A round may end in phase Filling, and otherwise where nothing is left to be sent.
abbrev pub MayEnd : CellState → Type 0
MayEnd s = (s.phase ≡ Filling) ⊎ NothingLeft s

-- whether a synchronize ends with a round in this phase
abbrev pub ends_with : Flags → Phase → Bool
ends_with flags Filling = false
ends_with flags Closing = not flags.backward
ends_with flags Refreshing = true

abbrev pub synchronizes : CellState → Bool
synchronizes s = ends_with s.flags s.phase

module _ (join : ℕ → ℕ → ℕ) (start : ℕ → ℕ) where
  -- a cell's value after a further one was put to it: a cell without a value takes it as it is
  abbrev pub joined : Option ℕ → ℕ → ℕ
  joined None x = x
  joined (Some y) x = join y x

  -- a value joins the own cell of a place, if there is such a place
  abbrev pub join_own : ℕ → ℕ → CellState → CellState
  join_own place x s = record s { own = slice_set s.own place (join (slice_index s.own place) x) }

  -- a value joins the ghost of a slot. With forward it is owed to the owner, with flush the ghost is noted.
  abbrev pub join_ghost : ℕ → ℕ → CellState → CellState
  join_ghost slot x s = record s {
    ghosts = slice_set s.ghosts slot (Some (joined (slice_index_or s.ghosts slot None) x));
    owed = if s.flags.forward then slice_set s.owed slot (Some (joined (slice_index_or s.owed slot None) x)) else s.owed;
    noted = if s.flags.flush then slice_set s.noted slot true else s.noted;
  }

  -- a value is put to the cell of a vertex
  abbrev pub Puts : CellState → ℕ → ℕ → CellState → Type 0
  Puts s v x t = ((place : ℕ) × IsOwn s.part v place × (t ≡ join_own place x s))
      ⊎ ((slot : ℕ) × IsGhost s.part v slot × (t ≡ join_ghost slot x s))

  -- a body is handled: a put joins the own cell of its place, a refresh replaces the ghost of its slot
  abbrev pub after_body : CellBody → CellState → CellState
  after_body (PutBody place value) s = join_own place value s
  after_body (Refresh slot value) s = record s { ghosts = slice_set s.ghosts slot (Some value) }

  -- the ghosts after a synchronize without backward
  abbrev pub ghosts_after : CellState → List (Option ℕ)
  ghosts_after s = if s.flags.reset then started start s.part else if s.flags.clear then emptied s.part else s.ghosts

  -- the cells after the end of a round in this phase
  abbrev pub after_round : Phase → CellState → CellState
  after_round Filling s = s
  after_round Closing s = if s.flags.backward
      then record s { phase = Refreshing; unsent = replicate (length (refreshes_of s.part)) true }
      else record s { phase = Filling; ghosts = ghosts_after s }
  after_round Refreshing s = record s { phase = Filling }

  -- from the cells before an event to those after it
  abbrev pub CellsStep : CellState → Event → CellState → Type 0
  CellsStep s (put v x) t = (s.phase ≡ Filling) × Puts s v x t
  CellsStep s (handled from body) t = t ≡ after_body body s
  CellsStep s (sent to body) t = Sends s to body t
  CellsStep s closed t = (s.phase ≡ Filling) × (t ≡ record s { phase = Closing })
  CellsStep s round_ended t = MayEnd s × (t ≡ after_round s.phase s)
