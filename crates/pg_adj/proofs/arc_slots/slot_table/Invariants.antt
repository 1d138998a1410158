use Rattle.pg_adj.proofs.SlotTables.{AreEntered}
use Rattle.pg_adj.proofs.arc_slots.slot_table.Given as goal

abbrev pub invariant-loop-slot : goal.invariant-loop-slot
invariant-loop-slot l = AreEntered l.ghosts l.n l.slot l.table.items
