use Rattle.pg_adj.proofs.SlotTables.{rows_have_slots}
use Rattle.pg_adj.proofs.laws.slots.Goals as goal

pub returns : goal.returns
returns c = record { rows = rows_have_slots }
