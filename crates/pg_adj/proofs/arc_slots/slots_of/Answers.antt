use Rattle.std.proofs.Common.{None, get_or, sym, subst}
use Rattle.pg_adj.specs.ArcSlots.{IsSlotOf}
use Rattle.pg_adj.proofs.SlotTables.{slots_from_table}
use Rattle.pg_adj.proofs.arc_slots.slots_of.Goals as goal

pub returns : goal.returns
returns c =
    slots_from_table c.args.ghosts.now c.args.arcs.now c.deref.result.now c.in_ok-slots.slots.items
    (λ v. subst (λ table. IsSlotOf c.args.ghosts.now v (get_or table v None)) (sym c.deref.ensures.value) (c.in_ok-table.ensures.slot v))
    c.in_ok-slots.ensures
