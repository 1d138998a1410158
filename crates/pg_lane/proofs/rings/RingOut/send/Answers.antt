use Rattle.std.proofs.Common.{rules, ℕ, ◌+◌, ◌-◌, ◌%◌, ◌∷◌, ◌++◌, length, length-append, refl, sym, ap, ap₂, ◌∙◌}
use Rattle.std.specs.Prelude.{Some}
use Rattle.atomic_table.specs.Table.{rest}
use Rattle.pg_lane.specs.Ring.{loaded, free_slot, spare}
use Rattle.pg_lane.proofs.Places.{next_of, one_free}
use Rattle.pg_lane.proofs.Writing.{sends_one}
use Rattle.pg_lane.proofs.rings.RingOut.send.Goals as goal

pub exchange-before-requires : goal.exchange-before-requires
exchange-before-requires g c =
    let me = c.args.self.now in
    let had = me.holds ∙ one_free me.room me.place (spare me.seat.me.1) c.requires in
    (me.of_board ∙ ap (λ t. t.shared.table_id) (sym c.deref.ensures), (spare me.seat.me.1, had ∙ ap (λ l. (me.place, spare me.seat.me.1) ∷ rest l) (sym had)))

pub fetch_add-requires : goal.fetch_add-requires
fetch_add-requires g c =
    let me = c.args.self.now in
    let did = c.exchange-before.ensures in
    let view = ap (λ m. m.0) did.3 in
    let had = me.holds ∙ one_free me.room me.place (spare me.seat.me.1) c.requires in
    let has = ap (λ m. m.1) did.3 ∙ ap (λ l. (me.place, Some c.args.item) ∷ rest l) had in
    let slots = ap (λ t. t.shared.table_id.slots) c.deref.ensures ∙ me.slots in (
      search rules,
      search rules,
      sends_one _ _ _ me.place c.args.item (ap (λ v. v.writes) view ∙ me.writes) (ap (λ v. v.reads) view ∙ me.reads) (search rules)
          (me.next_place ∙ ap₂ (λ (a b : ℕ). a % b) (ap (λ v. length v.sent) (sym view)) (sym slots)) has,
    )

pub invariant_of-self-clause-next_place : goal.invariant_of-self-clause-next_place
invariant_of-self-clause-next_place g c =
    let sent = ap (λ v. v.sent) c.fetch_add.ensures.2.0 ∙ ap (λ m. m.0.sent ++ loaded m.1) c.exchange-before.ensures.3 in
    c.next_place-self.ensures ∙ next_of _ _ _ _ c.args.self.now.next_place (ap length sent ∙ length-append _ _)

pub invariant_of-self-clause-holds : goal.invariant_of-self-clause-holds
invariant_of-self-clause-holds g c =
    let me = c.args.self.now in
    let did = c.exchange-before.ensures in
    let slots = ap (λ t. t.shared.table_id.slots) c.deref.ensures ∙ me.slots in
    c.fetch_add.ensures.2.1 ∙ ap₂ (λ (room k : ℕ). free_slot (room - 1) k (spare c.fetch_add.new.seat.me.1)) (ap (λ m. m.0.room) did.3 ∙ me.known_room)
    (ap₂ (λ (l n : ℕ). (l + 1) % n) (ap (λ m. length m.0.sent) did.3) slots ∙ sym (c.next_place-self.ensures ∙ next_of _ _ _ _ me.next_place refl))
