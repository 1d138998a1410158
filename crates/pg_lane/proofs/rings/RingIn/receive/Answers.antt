use Rattle.std.proofs.Common.{rules, ℕ, ◌+◌, ◌%◌, [], ◌∷◌, ◌++◌, length, length-append, refl, sym, ap, ap₂, ◌∙◌}
use Rattle.std.specs.Prelude.{Some}
use Rattle.atomic_table.specs.Table.{rest}
use Rattle.pg_lane.specs.Ring.{listed, full_slot}
use Rattle.pg_lane.proofs.Places.{next_of, some_hand}
use Rattle.pg_lane.proofs.Reading.{receives_one}
use Rattle.pg_lane.proofs.rings.RingIn.receive.Goals as goal

pub slot_mut-item-requires : goal.slot_mut-item-requires
slot_mut-item-requires g c =
    let me = c.args.self.now in
    let hand = some_hand me.seat.me.0.hand me.ready me.in_hand c.requires in
    let had = me.holds ∙ ap (λ h. full_slot h me.place) hand.1 in
    (me.of_board ∙ ap (λ t. t.shared.table_id) (sym c.deref.ensures), (Some hand.0, had ∙ ap (λ l. (me.place, Some hand.0) ∷ rest l) (sym had)))

pub fetch_add-requires : goal.fetch_add-requires
fetch_add-requires g c =
    let me = c.args.self.now in
    let hand = some_hand me.seat.me.0.hand me.ready me.in_hand c.requires in
    let had = me.holds ∙ ap (λ h. full_slot h me.place) hand.1 in
    let slots = ap (λ t. t.shared.table_id.slots) c.deref.ensures ∙ me.slots in (
      search rules,
      search rules,
      receives_one _ _ _ me.place hand.0 me.reads me.writes hand.1
          (me.next_place ∙ ap (λ (n : ℕ). length me.seat.me.0.taken % n) (sym slots)) (sym c.slot_mut-item.ensures.value ∙ had),
    )

pub invariant_of-self-clause-next_place : goal.invariant_of-self-clause-next_place
invariant_of-self-clause-next_place g c =
    let me = c.args.self.now in
    let hand = some_hand me.seat.me.0.hand me.ready me.in_hand c.requires in
    let taken = ap (λ v. v.taken) c.fetch_add.ensures.2.0 ∙ ap (λ h. me.seat.me.0.taken ++ listed h) hand.1 in
    c.next_place-self.ensures ∙ next_of _ _ _ _ me.next_place (ap length taken ∙ length-append _ _)

pub invariant_of-self-clause-holds : goal.invariant_of-self-clause-holds
invariant_of-self-clause-holds g c =
    let me = c.args.self.now in
    let slots = ap (λ t. t.shared.table_id.slots) c.deref.ensures ∙ me.slots in
    c.fetch_add.ensures.2.2 ∙ ap (λ (k : ℕ). full_slot c.fetch_add.new.seat.me.0.hand k)
    (ap (λ (n : ℕ). (length me.seat.me.0.taken + 1) % n) slots ∙ sym (c.next_place-self.ensures ∙ next_of _ _ _ _ me.next_place refl))
