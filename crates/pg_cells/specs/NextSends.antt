-- What cells send next, and the cells once it is sent.
use Rattle.std.specs.Prelude.{◌≡◌, ◌⊎◌, ◌<◌, true, false, Some, None, length, slice_set}
use Rattle.pg_cells.specs.PendingPuts.{next_slot}
use Rattle.pg_cells.specs.States.{CellState}
use Rattle.pg_cells.specs.declared.cells.Cells.{Cells}
use Rattle.pg_cells.specs.declared.outgoing.NextSend.{NextSend}
use Rattle.pg_cells.specs.declared.outgoing.NextSend.TheVariants.{PutOf, RefreshOf}
use Rattle.pg_cells.specs.declared.phases.Phase.TheVariants.{Closing, Refreshing}

abbrev pub after_send : NextSend → CellState → CellState
after_send (PutOf slot) s = record s { owed = slice_set s.owed slot None; noted = slice_set s.noted slot false }
after_send (RefreshOf entry) s = record s { unsent = slice_set s.unsent entry false }

-- Pending puts are sent in phase Closing, with forward in each phase. Refreshes are sent in order, in phase Refreshing.
abbrev pub IsNext : {R : Type 0} → Cells R → NextSend → Type 0
IsNext c (PutOf slot) = (next_slot c.pending_puts.slots.items ≡ Some slot) × ((c.flags.forward ≡ true) ⊎ (c.phase ≡ Closing))
IsNext c (RefreshOf entry) = (c.phase ≡ Refreshing) × (entry ≡ c.refreshes.next) × (entry < length c.refreshes.entries.items)
