-- A list of the slots for which something is pending: it stays one as puts are entered and sent, and it is never longer than there are
-- slots.
use Rattle.std.proofs.Common.{◌≡◌, ◌≢◌, ◌+◌, ◌-◌, ◌<◌, ◌≤◌, ℕ, Bool, true, false, eqb, ◌||◌, List, [], ◌∷◌, ◌++◌, Option, Some, None, IfSome, zero, suc, All, AllPairs, length, get_or, set, take, is_some, refl, sym, ap, ◌∙◌, subst, ⊎_elim, arith}
use Rattle.std.specs.List.{list_any}
use Rattle.std.proofs.lemmas.Bool.{cases_eq, cases_lt, eq-eqb, ne_eqb, eqb-true, or_from, or_cases, or_parts, or_left, or_right, false≢true, both_ways}
use Rattle.std.proofs.lemmas.Bool.Decides.{nat_tests, Decides-eqb}
use Rattle.std.proofs.lemmas.List.{get_or_past, get_or_default, get_or-set_same, get_or-set_other, get_or_append_left, get_or_push, length_push, take_more, take_all, nil_from_length}
use Rattle.std.proofs.lemmas.List.Folds.{list_any_none, list_any-append, list_any_at}
use Rattle.std.proofs.lemmas.List.Quantifiers.{all_pairs_push}
use Rattle.std.proofs.lemmas.Map.Made.{IsDistinct-from_AllPairs}
use Rattle.std.proofs.lemmas.Map.Steps.{length-le_from_distinct_below}
use Rattle.std.proofs.lemmas.Option.{none-some, get_or_from_slice_get, slice_get_within, slice_get-get_or}
use Rattle.pg_cells.specs.PendingPuts.{ArePending, is_pending, next_slot}

pub is_pending-lt : (owed : List (Option ℕ)) (noted : List Bool) (slot room : ℕ) → length owed ≤ room → length noted ≤ room → is_pending owed noted slot ≡ true → slot < room
is_pending-lt owed noted slot room o n h = ⊎_elim (λ lt. lt)
    (λ ge. absurd (both_ways (is_pending owed noted slot)
    (or_from (is_some (get_or owed slot None)) (get_or noted slot false) (ap (λ o. is_some o) (get_or_past owed slot None (omega arith))) (get_or_past noted slot false (omega arith))) h))
    (cases_lt slot room)

listed-lt : (owed : List (Option ℕ)) (noted : List Bool) (slots : List ℕ) (slot room : ℕ) → length owed ≤ room → length noted ≤ room → ArePending owed noted slots
    → list_any (eqb slot) slots ≡ true → slot < room
listed-lt owed noted slots slot room o n d h = is_pending-lt owed noted slot room o n (sym (d.each slot) ∙ h)

apart : (owed : List (Option ℕ)) (noted : List Bool) (slots : List ℕ) (slot : ℕ) → ArePending owed noted slots → is_pending owed noted slot ≡ false
    → (k d : ℕ) → k < length slots → get_or slots k d ≢ slot
apart owed noted slots slot a h k d lt e =
    both_ways (list_any (eqb slot) slots) (a.each slot ∙ h) (list_any_at (eqb slot) slots k d lt (eq-eqb slot (get_or slots k d) (sym e)))

once_more : (owed : List (Option ℕ)) (noted : List Bool) (slots : List ℕ) (slot : ℕ) → ArePending owed noted slots → is_pending owed noted slot ≡ false
    → AllPairs (λ a b. a ≢ b) (slots ++ slot ∷ [])
once_more owed noted slots slot a h = all_pairs_push (λ a b. a ≢ b) slots slot a.once (apart owed noted slots slot a h)

-- a slot for which nothing is pending leaves room for itself
pub listed_room : (owed : List (Option ℕ)) (noted : List Bool) (slots : List ℕ) (slot room : ℕ) → length owed ≤ room → length noted ≤ room → ArePending owed noted slots
    → slot < room → is_pending owed noted slot ≡ false → length slots < room
listed_room owed noted slots slot room o n a lt h =
    let all = slots ++ slot ∷ [] in
    let below : (q : ℕ) → list_any (eqb q) all ≡ true → q < room = λ q m.
    ⊎_elim (λ there. listed-lt owed noted slots q room o n a there)
    (λ here. ⊎_elim (λ same. let s = eqb-true q slot same in omega arith) (λ no. absurd (false≢true no)) (or_cases (eqb q slot) false here))
    (or_cases (list_any (eqb q) slots) (list_any (eqb q) (slot ∷ [])) (sym (list_any-append (eqb q) slots (slot ∷ [])) ∙ m)) in
    let most = length-le_from_distinct_below all room (IsDistinct-from_AllPairs Decides-eqb all (once_more owed noted slots slot a h)) below in
    omega (arith, length_push slots slot)

-- what is pending after a further put of this slot
pub record OwesMore (owed : List (Option ℕ)) (noted : List Bool) (slot : ℕ) (owed' : List (Option ℕ)) (noted' : List Bool) : Type 0 where
  pub more : (q : ℕ) → is_pending owed' noted' q ≡ (is_pending owed noted q || eqb q slot)

pub listed_push : (owed : List (Option ℕ)) (noted : List Bool) (slots : List ℕ) (slot : ℕ) (owed' : List (Option ℕ)) (noted' : List Bool) → ArePending owed noted slots
    → is_pending owed noted slot ≡ false → OwesMore owed noted slot owed' noted' → ArePending owed' noted' (slots ++ slot ∷ [])
listed_push owed noted slots slot owed' noted' a h m = record {
  each = λ q. let l = list_any-append (eqb q) slots (slot ∷ []) in let b = a.each q in let w = m.more q in grind (arith, nat_tests);
  once = once_more owed noted slots slot a h;
}

or_none : (b : Bool) → (b || false) ≡ b
or_none true = refl
or_none false = refl

pub listed_same : (owed : List (Option ℕ)) (noted : List Bool) (slots : List ℕ) (slot : ℕ) (owed' : List (Option ℕ)) (noted' : List Bool) → ArePending owed noted slots
    → is_pending owed noted slot ≡ true → OwesMore owed noted slot owed' noted' → ArePending owed' noted' slots
listed_same owed noted slots slot owed' noted' a h m = record {
  each = λ q. ⊎_elim
      (λ e. let i : is_pending owed noted q ≡ true = ap (λ s. is_pending owed noted s) e ∙ h in a.each q ∙ (i ∙ sym (m.more q ∙ or_left (is_pending owed noted q) (eqb q slot) i)))
      (λ ne. a.each q ∙ sym (m.more q ∙ (ap (λ b. is_pending owed noted q || b) (ne_eqb q slot ne) ∙ or_none (is_pending owed noted q))))
      (cases_eq q slot);
  once = a.once;
}

pub owes_put : (owed : List (Option ℕ)) (noted : List Bool) (slot value : ℕ) → slot < length owed → OwesMore owed noted slot (set owed slot (Some value)) noted
owes_put owed noted slot value lt = record {
  more = λ q. ⊎_elim
      (λ e. ap (λ k. is_pending (set owed slot (Some value)) noted k) e
      ∙ (or_left (is_some (get_or (set owed slot (Some value)) slot None)) (get_or noted slot false) (ap (λ o. is_some o) (get_or-set_same owed slot (Some value) None lt))
      ∙ sym (or_right (is_pending owed noted q) (eqb q slot) (eq-eqb q slot e))))
      (λ ne. let s = get_or-set_other owed slot q (Some value) None ne in rw (s, ne_eqb q slot ne) (sym (or_none (is_pending owed noted q))))
      (cases_eq q slot);
}

pub owes_note : (owed : List (Option ℕ)) (noted : List Bool) (slot : ℕ) → slot < length noted → OwesMore owed noted slot owed (set noted slot true)
owes_note owed noted slot lt = record {
  more = λ q. ⊎_elim
      (λ e. ap (λ k. is_pending owed (set noted slot true) k) e ∙ (or_right (is_some (get_or owed slot None)) (get_or (set noted slot true) slot false) (get_or-set_same noted slot true false lt)
      ∙ sym (or_right (is_pending owed noted q) (eqb q slot) (eq-eqb q slot e))))
      (λ ne. let s = get_or-set_other noted slot q true false ne in rw (s, ne_eqb q slot ne) (sym (or_none (is_pending owed noted q))))
      (cases_eq q slot);
}

-- what was listed, without its last slot
front : (slots : List ℕ) (slot : ℕ) → next_slot slots ≡ Some slot → slots ≡ take (length slots - 1) slots ++ slot ∷ []
front slots slot h =
    let lt = slice_get_within slots (length slots - 1) slot h in
    let e : length slots - 1 + 1 ≡ length slots = omega arith in
    sym (take_all (length slots) slots (omega arith)) ∙ (ap (λ n. take n slots) (sym e) ∙ (take_more slots (length slots - 1) slot lt
    ∙ ap (λ x. take (length slots - 1) slots ++ x ∷ []) (get_or_from_slice_get slots (length slots - 1) slot slot h)))

none_owed : (owed : List (Option ℕ)) (slot : ℕ) → get_or (set owed slot None) slot None ≡ None
none_owed [] slot = refl
none_owed (o ∷ owed) zero = refl
none_owed (o ∷ owed) (suc slot) = none_owed owed slot

none_noted : (noted : List Bool) (slot : ℕ) → get_or (set noted slot false) slot false ≡ false
none_noted [] slot = refl
none_noted (n ∷ noted) zero = refl
none_noted (n ∷ noted) (suc slot) = none_noted noted slot

-- the last slot stands nowhere before the last place
last_apart : (ss : List ℕ) (slot : ℕ) → AllPairs (λ a b. a ≢ b) (ss ++ slot ∷ []) → list_any (eqb slot) ss ≡ false
last_apart ss slot h = list_any_none (eqb slot) ss (λ k d lt. ne_eqb slot (get_or ss k d) (λ e.
    h k (length ss) d lt (omega (arith, length_push ss slot)) (get_or_append_left ss (slot ∷ []) d k lt ∙ (sym e ∙ sym (get_or_push ss slot d (length ss) refl)))))

front_once : (ss : List ℕ) (slot : ℕ) → AllPairs (λ a b. a ≢ b) (ss ++ slot ∷ []) → AllPairs (λ a b. a ≢ b) ss
front_once ss slot h i j d lt within e =
    h i j d lt (omega (arith, length_push ss slot)) (get_or_append_left ss (slot ∷ []) d i (omega arith) ∙ (e ∙ sym (get_or_append_left ss (slot ∷ []) d j within)))

paid_front : (owed : List (Option ℕ)) (noted : List Bool) (slot : ℕ) (ss : List ℕ) → ArePending owed noted (ss ++ slot ∷ []) → ArePending (set owed slot None) (set noted slot false) ss
paid_front owed noted slot ss a = record {
  each = λ q. ⊎_elim
      (λ e. ap (λ k. list_any (eqb k) ss) e ∙ (last_apart ss slot a.once ∙ sym (ap (λ k. is_pending (set owed slot None) (set noted slot false) k) e
      ∙ or_from (is_some (get_or (set owed slot None) slot None)) (get_or (set noted slot false) slot false) (ap (λ o. is_some o) (none_owed owed slot)) (none_noted noted slot))))
      (λ ne. let l = list_any-append (eqb q) ss (slot ∷ []) in let w = a.each q in let b = ne_eqb q slot ne in
      let o = get_or-set_other owed slot q None None ne in let n = get_or-set_other noted slot q false false ne in grind (arith, nat_tests))
      (cases_eq q slot);
  once = front_once ss slot a.once;
}

pub paid : (owed : List (Option ℕ)) (noted : List Bool) (slots : List ℕ) (slot : ℕ) → ArePending owed noted slots → next_slot slots ≡ Some slot
    → ArePending (set owed slot None) (set noted slot false) (take (length slots - 1) slots)
paid owed noted slots slot a h = paid_front owed noted slot (take (length slots - 1) slots) (subst (λ ss. ArePending owed noted ss) (front slots slot h) a)

-- for the next slot something is pending
pub next_is : (owed : List (Option ℕ)) (noted : List Bool) (slots : List ℕ) (slot : ℕ) → ArePending owed noted slots → next_slot slots ≡ Some slot → is_pending owed noted slot ≡ true
next_is owed noted slots slot a h =
    let lt = slice_get_within slots (length slots - 1) slot h in
    sym (a.each slot) ∙ list_any_at (eqb slot) slots (length slots - 1) slot lt (eq-eqb slot (get_or slots (length slots - 1) slot) (sym (get_or_from_slice_get slots (length slots - 1) slot slot h)))

no_slots : (slots : List ℕ) → next_slot slots ≡ None → slots ≡ []
no_slots slots h = ⊎_elim (λ lt. absurd (none-some (get_or slots (length slots - 1) 0) (sym h ∙ slice_get-get_or slots (length slots - 1) 0 (omega arith))))
    (λ ge. nil_from_length slots (omega arith)) (cases_lt 0 (length slots))

none_pending : (owed : List (Option ℕ)) (noted : List Bool) (slots : List ℕ) (slot : ℕ) → ArePending owed noted slots → next_slot slots ≡ None → is_pending owed noted slot ≡ false
none_pending owed noted slots slot a h = sym (a.each slot) ∙ ap (λ ss. list_any (eqb slot) ss) (no_slots slots h)

not_some : (o : Option ℕ) → is_some o ≡ false → o ≡ None
not_some None h = refl
not_some (Some x) h = cc

pub none_left : (owed : List (Option ℕ)) (noted : List Bool) (slots : List ℕ) → ArePending owed noted slots → next_slot slots ≡ None → All (λ owed. owed ≡ None) owed
none_left owed noted slots a h k d lt = get_or_default owed k d None lt ∙ not_some (get_or owed k None) (or_parts _ _ (none_pending owed noted slots k a h)).0

pub no_notes_left : (owed : List (Option ℕ)) (noted : List Bool) (slots : List ℕ) → ArePending owed noted slots → next_slot slots ≡ None → All (λ noted. noted ≡ false) noted
no_notes_left owed noted slots a h k d lt = get_or_default noted k d false lt ∙ (or_parts _ _ (none_pending owed noted slots k a h)).1

pub next_has : (owed : List (Option ℕ)) (noted : List Bool) (slots : List ℕ) (r : Option ℕ) → ArePending owed noted slots → r ≡ next_slot slots
    → IfSome r (λ slot. is_pending owed noted slot ≡ true)
next_has owed noted slots None a h = tt
next_has owed noted slots (Some slot) a h = next_is owed noted slots slot a (sym h)
