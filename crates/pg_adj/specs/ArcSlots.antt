-- Beside the arcs of a part: in which slot of the part's ghosts each of them ends.
use Rattle.std.specs.Prelude.{◌≡◌, ◌≢◌, ℕ, ◌<◌, Option, Some, None, List, length, slice_get, slice_index_or}
use Rattle.pg_base.specs.Keyed.{AreBounds, row_of}
use Rattle.pg_adj.specs.declared.arcs.Arc.{Arc}
use Rattle.pg_adj.specs.declared.arcs.Ghost.{Ghost}

-- The slot of the vertex v among these ghosts, none where it isn't one of them.
abbrev pub IsSlotOf : List Ghost → ℕ → Option ℕ → Type 0
IsSlotOf ghosts v (Some slot) = (g : Ghost) × (slice_get ghosts slot ≡ Some g) × (g.vertex.0 ≡ v)
IsSlotOf ghosts v None = (slot : ℕ) (g : Ghost) → slice_get ghosts slot ≡ Some g → g.vertex.0 ≢ v

-- For each arc, in order, the slot of the vertex that it leads to.
pub record AreSlotsOf (ghosts : List Ghost) (arcs : List Arc) (slots : List (Option ℕ)) : Type 0 where
  pub each : length slots ≡ length arcs
  pub slot : (k : ℕ) (d : Arc) → k < length arcs → IsSlotOf ghosts (slice_index_or arcs k d).to.0 (slice_index_or slots k None)

-- A row of the slots has those of the same row of the arcs.
abbrev pub RowsHaveSlots : Type 0
RowsHaveSlots = (ghosts : List Ghost) (arcs : List Arc) (slots : List (Option ℕ)) (count : ℕ) (bounds : List ℕ) → AreSlotsOf ghosts arcs slots → AreBounds count bounds (length arcs)
    → (i : ℕ) → i < count → AreSlotsOf ghosts (row_of bounds arcs i) (row_of bounds slots i)
