-- What a property map shows its caller.
use Rattle.std.specs.Prelude.{◌≡◌, Bool, false, None, length, replicate, vec_len, if◌then◌else◌}
use Rattle.pg_cells.specs.States.{CellState}
use Rattle.pg_cells.specs.Unsent.{unsent_from}
use Rattle.pg_cells.specs.declared.cells.Cells.{Cells}
use Rattle.pg_cells.specs.declared.flags.Flags.{Flags}

-- The values that it holds, and what it is yet to send. Puts that are owed take room only with forward, and notes only
-- with flush.
abbrev pub state_of : {R : Type 0} → Cells R → CellState
state_of c = record {
  part = c.part.value;
  flags = c.flags;
  phase = c.phase;
  own = c.own.items;
  ghosts = c.ghosts.items;
  owed = if c.flags.forward then c.pending_puts.owed.items else replicate (length c.part.value.ghosts) None;
  noted = if c.flags.flush then c.pending_puts.noted.items else replicate (length c.part.value.ghosts) false;
  unsent = unsent_from (vec_len c.refreshes.entries) c.refreshes.next;
}

module _ {R : Type 0} where
  -- what joins its values
  abbrev pub resolver_of : Cells R → R
  resolver_of c = c.resolver

  -- Both are over one part.
  abbrev pub SamePart : Cells R → Cells R → Type 0
  SamePart before after = after.part ≡ before.part

-- the flags of a consistency model
abbrev pub has_forward : Flags → Bool
has_forward flags = flags.forward

abbrev pub has_backward : Flags → Bool
has_backward flags = flags.backward

abbrev pub has_flush : Flags → Bool
has_flush flags = flags.flush

abbrev pub has_reset : Flags → Bool
has_reset flags = flags.reset

abbrev pub has_clear : Flags → Bool
has_clear flags = flags.clear
