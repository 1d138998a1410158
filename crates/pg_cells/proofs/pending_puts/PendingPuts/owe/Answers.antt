use Rattle.std.proofs.Common.{sym, ◌∙◌, set, Some, arith}
use Rattle.std.proofs.lemmas.List.{length-set}
use Rattle.std.specs.Vec.{vec_capacity}
use Rattle.pg_cells.proofs.Owing.{listed_room, listed_push, listed_same, owes_put}
use Rattle.pg_cells.proofs.pending_puts.PendingPuts.owe.Goals as goal
use Rattle.pg_cells.proofs.pending_puts.PendingPuts.owe.Goals.{then-not-is_pending, else-not-is_pending}

pub push_reserved-requires : goal.push_reserved-requires
push_reserved-requires c =
    let s = c.args.self.now in
    omega (arith, listed_room s.owed.items s.noted.items s.slots.items c.args.slot (vec_capacity s.slots) s.owed_room s.noted_room s.listed (omega (arith, c.requires, s.owed_room)) (sym c.is_pending.ensures ∙ c.if-not-is_pending.true), s.slots.ok.0)

pub invariant_of-self-clause-listed : goal.invariant_of-self-clause-listed
invariant_of-self-clause-listed c =
    let s = c.args.self.now in
    let more = (owes_put s.owed.items s.noted.items c.args.slot c.args.value c.requires) in
    elim c.if-not-is_pending.branch [
      | then-not-is_pending w ↦ rw (w.self-is, w.push_reserved.ensures.items) (listed_push s.owed.items s.noted.items s.slots.items c.args.slot (set s.owed.items c.args.slot (Some c.args.value)) s.noted.items s.listed (sym c.is_pending.ensures ∙ w.if-not-is_pending.true) more)
      | else-not-is_pending w ↦ rw w.self-is (listed_same s.owed.items s.noted.items s.slots.items c.args.slot (set s.owed.items c.args.slot (Some c.args.value)) s.noted.items s.listed (sym c.is_pending.ensures ∙ w.if-not-is_pending.false) more)
    ]

pub invariant_of-self-clause-owed_room : goal.invariant_of-self-clause-owed_room
invariant_of-self-clause-owed_room c =
    let s = c.args.self.now in
    elim c.if-not-is_pending.branch [
      | then-not-is_pending w ↦ rw w.self-is (omega (arith, length-set s.owed.items c.args.slot (Some c.args.value), s.owed_room, w.push_reserved.ensures.capacity))
      | else-not-is_pending w ↦ rw w.self-is (omega (arith, length-set s.owed.items c.args.slot (Some c.args.value), s.owed_room))
    ]

pub invariant_of-self-clause-noted_room : goal.invariant_of-self-clause-noted_room
invariant_of-self-clause-noted_room c =
    let s = c.args.self.now in
    elim c.if-not-is_pending.branch [
      | then-not-is_pending w ↦ rw w.self-is (omega (arith, s.noted_room, w.push_reserved.ensures.capacity))
      | else-not-is_pending w ↦ rw w.self-is (omega (arith, s.noted_room))
    ]
