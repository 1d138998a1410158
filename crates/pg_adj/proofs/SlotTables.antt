-- A table of the slots of ghosts, filled ghost after ghost.
use Rattle.std.proofs.Common.{◌≡◌, ℕ, ◌+◌, ◌<◌, ◌≤◌, Option, Some, None, List, length, get_or, map, set, slice_get, replicate, AllPairs, refl, sym, ap, subst, ◌∙◌, inl, inr, arith}
use Rattle.std.proofs.lemmas.Bool.{cases_eq, cases_lt}
use Rattle.std.proofs.lemmas.Option.{none-some, same_Some, slice_get_within, get_or_from_slice_get}
use Rattle.std.proofs.lemmas.List.{get_or-set_same, get_or-set_other, get_or-replicate, get_or_past, length-set, length-replicate, length-map, get_or-map}
use Rattle.std.proofs.lemmas.List.Edits.{get_or-between, length-between}
use Rattle.pg_base.specs.Keyed.{row_of}
use Rattle.pg_adj.specs.declared.arcs.Arc.{Arc}
use Rattle.pg_adj.specs.declared.arcs.Ghost.{Ghost}
use Rattle.pg_adj.specs.ArcSlots.{IsSlotOf, AreSlotsOf, RowsHaveSlots}

-- The first k ghosts are entered, and nothing else.
pub record AreEntered (ghosts : List Ghost) (n k : ℕ) (table : List (Option ℕ)) : Type 0 where
  pub size : length table ≡ n + 1
  pub sound : (v slot : ℕ) → get_or table v None ≡ Some slot → (g : Ghost) × (slice_get ghosts slot ≡ Some g) × (g.vertex.0 ≡ v)
  pub entered : (slot : ℕ) (g : Ghost) → slot < k → slice_get ghosts slot ≡ Some g → get_or table g.vertex.0 None ≡ Some slot

abbrev nothing : Option ℕ
nothing = None

blank_at : (n v : ℕ) → get_or (replicate n nothing) v nothing ≡ nothing
blank_at n v = elim (cases_lt v n) [
  | inl below ↦ get_or-replicate n v nothing nothing below
  | inr past ↦ get_or_past (replicate n nothing) v nothing (omega (arith, length-replicate n nothing))
]

pub one_entered : (ghosts : List Ghost) (n k : ℕ) (table : List (Option ℕ)) (g : Ghost) → AllPairs (λ a b. a.vertex.0 < b.vertex.0) ghosts → slice_get ghosts k ≡ Some g → g.vertex.0 ≤ n
    → AreEntered ghosts n k table → AreEntered ghosts n (k + 1) (set table g.vertex.0 (Some k))
one_entered ghosts n k table g ascend at within h = record {
  size = length-set table g.vertex.0 (Some k) ∙ h.size;
  sound = λ v slot is. elim (cases_eq v g.vertex.0) [
    | inl same ↦
        let here : get_or (set table g.vertex.0 (Some k)) v None ≡ Some k = ap (λ (i : ℕ). get_or (set table g.vertex.0 (Some k)) i None) same ∙ get_or-set_same table g.vertex.0 (Some k) None (omega (arith, h.size)) in
        let slots : k ≡ slot = same_Some k slot (sym here ∙ is) in
        (g, subst (λ (i : ℕ). slice_get ghosts i ≡ Some g) slots at, sym same)
    | inr other ↦ h.sound v slot (sym (get_or-set_other table g.vertex.0 v (Some k) None other) ∙ is)
  ];
  entered = λ slot x less there. elim (cases_lt slot k) [
    | inl before ↦
        let first = get_or_from_slice_get ghosts slot x x there in
        let last = get_or_from_slice_get ghosts k g x at in
        let apart = ascend slot k x before (slice_get_within ghosts k g at) in
        let vertices : x.vertex.0 < g.vertex.0 = omega (arith, apart, ap (λ (y : Ghost). y.vertex.0) first, ap (λ (y : Ghost). y.vertex.0) last) in
        get_or-set_other table g.vertex.0 x.vertex.0 (Some k) None (λ e. omega (arith, e, vertices)) ∙ h.entered slot x before there
    | inr here ↦
        let slots : slot ≡ k = omega arith in
        let same : x ≡ g = same_Some x g (sym there ∙ (ap (slice_get ghosts) slots ∙ at)) in
        ap (λ (y : Ghost). get_or (set table g.vertex.0 (Some k)) y.vertex.0 None) same ∙ (get_or-set_same table g.vertex.0 (Some k) None (omega (arith, h.size)) ∙ ap Some (sym slots))
  ];
}

slot_from : (ghosts : List Ghost) (v : ℕ) (answer : Option ℕ) → ((slot : ℕ) → answer ≡ Some slot → (g : Ghost) × (slice_get ghosts slot ≡ Some g) × (g.vertex.0 ≡ v))
    → ((slot : ℕ) (g : Ghost) → slice_get ghosts slot ≡ Some g → g.vertex.0 ≡ v → answer ≡ Some slot) → IsSlotOf ghosts v answer
slot_from ghosts v None sound entered = λ slot g at same. none-some slot (entered slot g at same)
slot_from ghosts v (Some slot) sound entered = sound slot refl

-- Where all are entered, the table has the slots.
pub all_entered : (ghosts : List Ghost) (n k : ℕ) (table : List (Option ℕ)) → AreEntered ghosts n k table → length ghosts ≤ k → (v : ℕ) → IsSlotOf ghosts v (get_or table v None)
all_entered ghosts n k table h all v =
    slot_from ghosts v (get_or table v None) (h.sound v)
    (λ slot g at same. ap (λ (i : ℕ). get_or table i None) (sym same) ∙ h.entered slot g (omega (arith, slice_get_within ghosts slot g at)) at)

-- The slots of arcs by the table.
pub slots_from_table : (ghosts : List Ghost) (arcs : List Arc) (table slots : List (Option ℕ)) → ((v : ℕ) → IsSlotOf ghosts v (get_or table v None)) → slots ≡ map (λ a. get_or table a.to.0 None) arcs
    → AreSlotsOf ghosts arcs slots
slots_from_table ghosts arcs table slots by is = record {
  each = ap length is ∙ length-map arcs (λ (a : Arc). get_or table a.to.0 None);
  slot = λ k d less.
      let entry : get_or slots k None ≡ get_or table (get_or arcs k d).to.0 None = ap (λ (xs : List (Option ℕ)). get_or xs k None) is ∙ get_or-map (λ (a : Arc). get_or table a.to.0 None) arcs k d None less in
      subst (IsSlotOf ghosts (get_or arcs k d).to.0) (sym entry) (by (get_or arcs k d).to.0);
}

pub rows_have_slots : RowsHaveSlots
rows_have_slots ghosts arcs slots count bounds are bounded i below =
    let first = get_or bounds i 0 in
    let last = get_or bounds (i + 1) 0 in
    let within : last ≤ length arcs = bounded.within (i + 1) (omega arith) in
    let size = length-between arcs first last within in
    let beside = length-between slots first last (omega (arith, are.each)) in
    record {
      each = omega (arith, size, beside);
      slot = λ k d less.
          let arc : get_or (row_of bounds arcs i) k d ≡ get_or arcs (first + k) d = get_or-between arcs first last k d (omega (arith, size)) in
          let entry : get_or (row_of bounds slots i) k None ≡ get_or slots (first + k) None = get_or-between slots first last k None (omega (arith, size)) in
          subst (λ (a : Arc). IsSlotOf ghosts a.to.0 (get_or (row_of bounds slots i) k None)) (sym arc)
          (subst (IsSlotOf ghosts (get_or arcs (first + k) d).to.0) (sym entry) (are.slot (first + k) d (omega (arith, size, within))));
    }
