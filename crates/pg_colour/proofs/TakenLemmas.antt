-- At which colours the arcs of a place end.
use Rattle.std.proofs.Common.{◌≡◌, ◌≢◌, ◌↔◌, ◌⊎◌, ℕ, ◌+◌, ◌<◌, ◌≤◌, List, Option, Some, None, All, length, get_or, slice_get, refl, sym, ◌∙◌, subst, ap, inl, inr, ⊎_elim, arith}
use Rattle.std.proofs.lemmas.Bool.{cases_eq, cases_lt}
use Rattle.std.proofs.lemmas.Option.{slice_get_within, slice_get-get_or, get_or_from_slice_get, same_Some}
use Rattle.pg_adj.specs.ArcSlots.{AreSlotsOf, IsSlotOf}
use Rattle.pg_adj.specs.declared.arcs.Arc.{Arc}
use Rattle.pg_adj.specs.declared.arcs.Ghost.{Ghost}
use Rattle.pg_adj.specs.Portions.{Portion, IsOwnArc, IsPortion}
use Rattle.pg_adj.proofs.MirrorLists.{Contains-at, index_of, same_index}
use Rattle.pg_adj.proofs.SlotTables.{rows_have_slots}
use Rattle.pg_base.specs.Keyed.{row_of}
use Rattle.pg_cells.specs.States.{IsGhost}
use Rattle.pg_simd.specs.Kernels.{IsFirstFree}
use Rattle.pg_colour.specs.declared.TheConstants.{NO_COLOUR}
use Rattle.pg_colour.specs.Palettes.{IsMarked}
use Rattle.pg_colour.specs.Passes.{Cells, EndsAt, IsLeastFree, IsTaken, row}
use Rattle.pg_colour.proofs.Pigeons.{held_by_few}

-- One vertex has one slot.
pub one_slot : (part : Portion) (v k l : ℕ) → IsPortion part → IsGhost part v k → IsGhost part v l → k ≡ l
one_slot part v k l whole a b =
    same_index (λ g h. g.vertex.0 < h.vertex.0) part.ghosts whole.ghosts_ascend k l a.0 b.0 a.1 b.1
    (λ less. omega (arith, a.2, b.2)) (λ less. omega (arith, a.2, b.2))

-- An own vertex is no ghost.
own_apart : (part : Portion) (arc : Arc) (slot : ℕ) → IsPortion part → IsOwnArc part arc → arc.home.0 ≡ part.rank → IsGhost part arc.to.0 slot → ⊥
own_apart part arc slot whole own home held =
    let g : Ghost = held.0 in
    let at = get_or_from_slice_get part.ghosts slot g g held.1 in
    let inside = slice_get_within part.ghosts slot g held.1 in
    let others = subst (λ (x : Ghost). All (λ v. v ≢ x.vertex.0) part.vertices) at (whole.apart slot g inside) in
    let there = own.place home in
    others arc.place 0 there (own.holds home ∙ sym held.2)

-- An own end has the own cell.
pub ends_own : (part : Portion) (own seen : Cells) (arc : Arc) (d : ℕ) → IsPortion part → IsOwnArc part arc → arc.home.0 ≡ part.rank → EndsAt part own seen arc d → own arc.place ≡ d
ends_own part own seen arc d whole is home ends =
    ⊎_elim (λ here. here.1) (λ there. absurd (own_apart part arc there.0 whole is home there.1)) ends

-- Another end has the cell of its slot.
pub ends_slot : (part : Portion) (own seen : Cells) (arc : Arc) (slot d : ℕ) → IsPortion part → (arc.home.0 ≡ part.rank → ⊥) → IsGhost part arc.to.0 slot → EndsAt part own seen arc d → seen slot ≡ d
ends_slot part own seen arc slot d whole away held ends =
    ⊎_elim (λ here. absurd (away here.0)) (λ there. ap seen (one_slot part arc.to.0 slot there.0 whole held there.1) ∙ there.2) ends

-- Another end without a slot has none.
pub ends_nowhere : (part : Portion) (own seen : Cells) (arc : Arc) (d : ℕ) → (arc.home.0 ≡ part.rank → ⊥) → IsSlotOf part.ghosts arc.to.0 None → EndsAt part own seen arc d → ⊥
ends_nowhere part own seen arc d away none ends =
    ⊎_elim (λ here. absurd (away here.0)) (λ there. none there.0 there.1.0 there.1.1 there.1.2) ends

-- Each arc ends at one colour at most.
pub one_end : (part : Portion) (own seen : Cells) (arc : Arc) (slot : Option ℕ) → IsPortion part → IsOwnArc part arc → IsSlotOf part.ghosts arc.to.0 slot
    → (v : ℕ) × ((d : ℕ) → EndsAt part own seen arc d → d ≡ v)
one_end part own seen arc (Some slot) whole is held = elim (cases_eq arc.home.0 part.rank) [
  | inl home ↦ (own arc.place, λ d ends. sym (ends_own part own seen arc d whole is home ends))
  | inr away ↦ (seen slot, λ d ends. sym (ends_slot part own seen arc slot d whole away held ends))
]
one_end part own seen arc None whole is held = elim (cases_eq arc.home.0 part.rank) [
  | inl home ↦ (own arc.place, λ d ends. sym (ends_own part own seen arc d whole is home ends))
  | inr away ↦ (0, λ d ends. absurd (ends_nowhere part own seen arc d away held ends))
]

-- The slots beside the arcs of a place.
pub slot_here : (part : Portion) (slots : List (Option ℕ)) (place : ℕ) (arcs : List Arc) (beside : List (Option ℕ)) (k : ℕ) (d : Arc)
    → IsPortion part → place < length part.vertices → AreSlotsOf part.ghosts part.arcs slots → arcs ≡ row part place → beside ≡ row_of part.bounds slots place
    → k < length arcs → IsSlotOf part.ghosts (get_or arcs k d).to.0 (get_or beside k None)
slot_here part slots place arcs beside k d whole below are is by less =
    let here = rows_have_slots part.ghosts part.arcs slots (length part.vertices) part.bounds are whole.bounds place below in
    subst (λ (xs : List (Option ℕ)). IsSlotOf part.ghosts (get_or arcs k d).to.0 (get_or xs k None)) (sym by)
    (subst (λ (xs : List Arc). IsSlotOf part.ghosts (get_or xs k d).to.0 (get_or (row_of part.bounds slots place) k None)) (sym is)
    (here.slot k d (subst (λ (xs : List Arc). k < length xs) is less)))

-- One of the first k arcs of the place ends at colour d.
pub record IsTakenBelow (part : Portion) (own seen : Cells) (place k d : ℕ) : Type 0 where
  pub index : ℕ
  pub arc : Arc
  pub below : index < k
  pub stands : slice_get (row part place) index ≡ Some arc
  pub ends : EndsAt part own seen arc d

-- The colours below the number of stamps that are marked are those of the first k arcs.
abbrev pub AreMarked : Portion → Cells → Cells → ℕ → ℕ → List ℕ → ℕ → Type 0
AreMarked part own seen place k stamps stamp =
    (d : ℕ) → d < length stamps → d < NO_COLOUR → IsMarked stamps stamp d ↔ IsTakenBelow part own seen place k d

pub none_marked : (part : Portion) (own seen : Cells) (place : ℕ) (stamps : List ℕ) (stamp : ℕ) → ((d : ℕ) → IsMarked stamps stamp d → ⊥) → AreMarked part own seen place 0 stamps stamp
none_marked part own seen place stamps stamp free d small real = (λ marked. absurd (free d marked), λ t. absurd (omega (arith, t.below)))

pub one_marked : (part : Portion) (own seen : Cells) (place k : ℕ) (stamps more : List ℕ) (stamp after result : ℕ) (arc : Arc)
    → slice_get (row part place) k ≡ Some arc
    → ((d : ℕ) → d < NO_COLOUR → EndsAt part own seen arc d ↔ (result ≡ d))
    → ((d : ℕ) → IsMarked more after d ↔ (((d ≡ result) × (d < length stamps)) ⊎ IsMarked stamps stamp d))
    → length more ≡ length stamps
    → AreMarked part own seen place k stamps stamp → AreMarked part own seen place (k + 1) more after
one_marked part own seen place k stamps more stamp after result arc at ends taken same before d small real = (
  λ marked. ⊎_elim
      (λ here. record { index = k; arc = arc; below = omega arith; stands = at; ends = (ends d real).1 (sym here.0) })
      (λ was. let t = (before d (omega (arith, same, small)) real).0 was in record { index = t.index; arc = t.arc; below = omega (arith, t.below); stands = t.stands; ends = t.ends })
      ((taken d).0 marked),
  λ t. (taken d).1 (elim (cases_lt t.index k) [
    | inl earlier ↦ inr ((before d (omega (arith, same, small)) real).1 (record { index = t.index; arc = t.arc; below = earlier; stands = t.stands; ends = t.ends }))
    | inr late ↦
        let here : t.index ≡ k = omega (arith, t.below, late) in
        let is : t.arc ≡ arc = same_Some t.arc arc (sym t.stands ∙ (ap (slice_get (row part place)) here ∙ at)) in
        inl (sym ((ends d real).0 (subst (λ (a : Arc). EndsAt part own seen a d) is t.ends)), omega (arith, same, small))
  ]),
)

pub taken_from : (part : Portion) (own seen : Cells) (place k d : ℕ) → IsTakenBelow part own seen place k d → IsTaken part own seen place d
taken_from part own seen place k d t = record { arc = t.arc; among = Contains-at (row part place) t.index t.arc t.stands; ends = t.ends }

pub taken_below : (part : Portion) (own seen : Cells) (place k d : ℕ) → length (row part place) ≤ k → IsTaken part own seen place d → IsTakenBelow part own seen place k d
taken_below part own seen place k d past t =
    let at = index_of (row part place) t.arc t.among in
    record { index = at.0; arc = t.arc; below = omega (arith, past, slice_get_within (row part place) at.0 t.arc at.1); stands = at.1; ends = t.ends }

pub all_marked : (part : Portion) (own seen : Cells) (place k : ℕ) (stamps : List ℕ) (stamp : ℕ) → length (row part place) ≤ k → AreMarked part own seen place k stamps stamp
    → (d : ℕ) → d < length stamps → d < NO_COLOUR → IsMarked stamps stamp d ↔ IsTaken part own seen place d
all_marked part own seen place k stamps stamp past are d small real =
    (λ marked. taken_from part own seen place k d ((are d small real).0 marked), λ t. (are d small real).1 (taken_below part own seen place k d past t))

-- An arc of the place ends at colour d.
abbrev HasEnd : Portion → Cells → Cells → ℕ → ℕ → ℕ → Type 0
HasEnd part own seen place k d = (arc : Arc) × (slice_get (row part place) k ≡ Some arc) × EndsAt part own seen arc d

-- No more colours are taken than a place has arcs.
pub taken_by_few : (part : Portion) (own seen : Cells) (slots : List (Option ℕ)) (place c : ℕ) → IsPortion part → place < length part.vertices → AreSlotsOf part.ghosts part.arcs slots
    → ((arc : Arc) (k : ℕ) → slice_get (row part place) k ≡ Some arc → IsOwnArc part arc)
    → ((d : ℕ) → d < c → IsTaken part own seen place d) → c ≤ length (row part place)
taken_by_few part own seen slots place c whole below are is taken =
    held_by_few (HasEnd part own seen place) (length (row part place)) c
    (λ k less.
    let some : Arc = record { to = record { 0 = 0 }; home = record { 0 = 0 }; place = 0; w = 0; edge = 0 } in
    let arc : Arc = get_or (row part place) k some in
    let at : slice_get (row part place) k ≡ Some arc = slice_get-get_or (row part place) k some less in
    let slot = slot_here part slots place (row part place) (row_of part.bounds slots place) k some whole below are refl refl less in
    let one = one_end part own seen arc (get_or (row_of part.bounds slots place) k None) whole (is arc k at) slot in
    (one.0, λ d has. one.1 d (subst (λ (a : Arc). EndsAt part own seen a d) (same_Some has.0 arc (sym has.1 ∙ at)) has.2)))
    (λ d less.
    let t = taken d less in
    let at = index_of (row part place) t.arc t.among in
    (at.0, slice_get_within (row part place) at.0 t.arc at.1, (t.arc, at.1, t.ends)))

-- The first free stamp is the least free colour, and at most the number of arcs.
pub least_few : (part : Portion) (own seen : Cells) (place : ℕ) (stamps : List ℕ) (stamp c : ℕ)
    → length (row part place) < length stamps → length stamps ≤ NO_COLOUR
    → ((d : ℕ) → d < length stamps → d < NO_COLOUR → IsMarked stamps stamp d ↔ IsTaken part own seen place d)
    → ((k : ℕ) → ((d : ℕ) → d < k → IsTaken part own seen place d) → k ≤ length (row part place))
    → IsFirstFree stamps stamp c → (c ≤ length (row part place)) × IsLeastFree part own seen place c
least_few part own seen place stamps stamp c room small marked most first =
    let taken : (d : ℕ) → d < c → IsTaken part own seen place d =
    λ d less.
    let inside : d < length stamps = omega (arith, less, first.within) in
    (marked d inside (omega (arith, inside, small))).0 (slice_get-get_or stamps d 0 inside ∙ ap Some (first.before d less)) in
    let few = most c taken in (
      few,
      record {
        colour = omega (arith, few, room, small);
        free = λ t.
            let inside : c < length stamps = omega (arith, few, room) in
            first.free inside (get_or_from_slice_get stamps c stamp 0 ((marked c inside (omega (arith, inside, small))).1 t));
        least = taken;
      },
    )
