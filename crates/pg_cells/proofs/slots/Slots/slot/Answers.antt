use Rattle.std.proofs.Common.{rules}
use Rattle.std.proofs.lemmas.List.Sorted.{answers_always}
use Rattle.pg_adj.specs.declared.arcs.Ghost.{Ghost}
use Rattle.pg_cells.proofs.Holding.{found_ghost, no_ghost}
use Rattle.pg_cells.proofs.slots.Slots.slot.Goals as goal

pub returns-in-Ok-clause-found : goal.returns-in-Ok-clause-found
returns-in-Ok-clause-found c =
    let said = c.in-Ok.ensures.position (λ (g : Ghost). g.vertex.0) (answers_always _ _ _ (λ f a r g h. search rules)) in
    rw (← c.deref.ensures.value) (found_ghost c.deref.result.now c.args.v.0 c.in-Ok.slot c.in-Ok.ensures.bound said)

pub returns-in-Err-clause-none : goal.returns-in-Err-clause-none
returns-in-Err-clause-none c e =
    let said = c.in-Err.ensures.position (λ (g : Ghost). g.vertex.0) (answers_always _ _ _ (λ f a r g h. search rules)) in
    let s = c.args.self.now in
    rw (← c.deref.ensures.value) (no_ghost c.deref.result.now c.args.v.0 c.in-Err.field-0 (rw c.deref.ensures.value s.ascend) said)
