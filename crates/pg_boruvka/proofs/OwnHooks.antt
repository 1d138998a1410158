-- The hooks that a rank finds itself, and to which label a list of hooks leads.
use Rattle.std.proofs.Common.{◌≡◌, ◌≢◌, ◌==◌, ◌⊎◌, ℕ, zero, suc, ◌≤◌, true, List, [], ◌∷◌, refl, sym, ◌∙◌, ap, subst, inl, inr, ⊎_elim, arith, Option, Some, None, Contains}
use Rattle.std.specs.Prelude.{not}
use Rattle.std.proofs.lemmas.Bool.{cases_eq, eq-eqb, ne_eqb, eqb-true, eqb-false, and_parts, and_from, not-true, cond-true, cond-false}
use Rattle.std.proofs.lemmas.List.Elements.{Contains-append_left, Contains-append_right, Contains-append_cases}
use Rattle.pg_base.proofs.Members.{contains_first, contains_later, contains_cases}
use Rattle.pg_boruvka.specs.declared.messages.Hook.{Hook}
use Rattle.pg_boruvka.specs.Parts.{LocalArc, Part}
use Rattle.pg_boruvka.specs.Winners.{leaves, best_arc}
use Rattle.pg_boruvka.specs.Hooks.{hook_by, hooks_up_to, hooked_to}
use Rattle.pg_boruvka.proofs.Leasts.{LeavesFrom, IsBestArc, best_arc_is, IsOwnKey}

pub leaves_is : (label : ℕ → ℕ) (l : ℕ) (a : LocalArc) → leaves label l a ≡ true → (label a.from ≡ l) × (label a.to ≢ l)
leaves_is label l a is =
    let parts = and_parts (label a.from == l) (not (label a.to == l)) is in
    (eqb-true (label a.from) l parts.0, eqb-false (label a.to) l (not-true (label a.to == l) parts.1))

pub leaves_from : (label : ℕ → ℕ) (l : ℕ) (a : LocalArc) → label a.from ≡ l → label a.to ≢ l → leaves label l a ≡ true
leaves_from label l a from to =
    and_from (label a.from == l) (not (label a.to == l)) (eq-eqb (label a.from) l from) (ap not (ne_eqb (label a.to) l to))

abbrev pub hook_over : (ℕ → ℕ) → ℕ → LocalArc → Hook
hook_over label l a = record { source = l; target = label a.to; edge = a.edge }

-- A hook by an arc of the part that leaves its source with the winning key.
pub record OwnHook (part : Part) (label : ℕ → ℕ) (win : ℕ → ℕ) (n : ℕ) (h : Hook) : Type 0 where
  pub first : 1 ≤ h.source
  pub last : h.source ≤ n
  pub arc : LocalArc
  pub from : LeavesFrom part label h.source arc
  pub key : arc.key ≡ win h.source
  pub is : h ≡ hook_over label h.source arc

-- A hook of this label.
pub record HasHook (hooks : List Hook) (l : ℕ) : Type 0 where
  pub hook : Hook
  pub among : Contains hooks hook
  pub source : hook.source ≡ l

module _ (part : Part) (label : ℕ → ℕ) (win : ℕ → ℕ) where
  pub some_is : (l key : ℕ) (a : LocalArc) (h : Hook) → (a.key ≡ key) ⊎ (a.key ≢ key) → Contains (hook_by label l key (Some a)) h → (a.key ≡ key) × (hook_over label l a ≡ h)
  some_is l key a h (inl same) c =
      let one : Contains (hook_over label l a ∷ []) h = subst (λ (x : List Hook). Contains x h) (cond-true (a.key == key) (hook_over label l a ∷ []) [] (eq-eqb a.key key same)) c in
      (same, ⊎_elim (λ is. is) (λ none. absurd (omega (arith, none.1))) (contains_cases (hook_over label l a) [] h one))
  some_is l key a h (inr apart) c =
      let none : Contains [] h = subst (λ (x : List Hook). Contains x h) (cond-false (a.key == key) (hook_over label l a ∷ []) [] (ne_eqb a.key key apart)) c in
      absurd (omega (arith, none.1))

  by_is : (l n : ℕ) (o : Option LocalArc) (h : Hook) → 1 ≤ l → l ≤ n → IsBestArc part label l o → Contains (hook_by label l (win l) o) h → OwnHook part label win n h
  by_is l n None h first last best c = absurd (omega (arith, c.1))
  by_is l n (Some a) h first last best c =
      let found = some_is l (win l) a h (cases_eq a.key (win l)) c in
      subst (OwnHook part label win n) found.1 (record { first = first; last = last; arc = a; from = best.0; key = found.0; is = refl })

  more : (n : ℕ) (h : Hook) → OwnHook part label win n h → OwnHook part label win (suc n) h
  more n h own = record { first = own.first; last = omega (arith, own.last); arc = own.arc; from = own.from; key = own.key; is = own.is }

  pub hooks_are : (n : ℕ) (h : Hook) → Contains (hooks_up_to part label win n) h → OwnHook part label win n h
  hooks_are zero h c = absurd (omega (arith, c.1))
  hooks_are (suc n) h c = ⊎_elim
      (λ before. more n h (hooks_are n h before))
      (λ here. by_is (suc n) (suc n) (best_arc part label (suc n)) h (omega arith) (omega arith) (best_arc_is part label (suc n)) here)
      (Contains-append_cases (hooks_up_to part label win n) (hook_by label (suc n) (win (suc n)) (best_arc part label (suc n))) h c)

  pub hooks_have : (n l : ℕ) (b : LocalArc) → 1 ≤ l → l ≤ n → best_arc part label l ≡ Some b → b.key ≡ win l → (l ≡ n) ⊎ (l ≢ n) → Contains (hooks_up_to part label win n) (hook_over label l b)
  hooks_have zero l b first last best key at = absurd (omega arith)
  hooks_have (suc n) l b first last best key (inl same) =
      Contains-append_right (hooks_up_to part label win n) (hook_by label (suc n) (win (suc n)) (best_arc part label (suc n))) (hook_over label l b)
      (subst (λ (m : ℕ). Contains (hook_by label m (win m) (best_arc part label m)) (hook_over label l b)) same
      (subst (λ (o : Option LocalArc). Contains (hook_by label l (win l) o) (hook_over label l b)) (sym best)
      (subst (λ (x : List Hook). Contains x (hook_over label l b)) (sym (cond-true (b.key == win l) (hook_over label l b ∷ []) [] (eq-eqb b.key (win l) key)))
      (contains_first (hook_over label l b) []))))
  hooks_have (suc n) l b first last best key (inr apart) =
      Contains-append_left (hooks_up_to part label win n) (hook_by label (suc n) (win (suc n)) (best_arc part label (suc n))) (hook_over label l b)
      (hooks_have n l b first (omega arith) best key (cases_eq l n))

  found_by : (n l : ℕ) (o : Option LocalArc) → best_arc part label l ≡ o → IsBestArc part label l o → 1 ≤ l → l ≤ n → IsOwnKey part label l (win l)
      → ((x : ℕ) → IsOwnKey part label l x → win l ≤ x) → HasHook (hooks_up_to part label win n) l
  found_by n l None is best first last own least = absurd (best own.arc own.from)
  found_by n l (Some b) is best first last own least =
      let high = best.1 own.arc own.from in
      let low = least b.key (record { arc = b; from = best.0; key = refl }) in
      record {
        hook = hook_over label l b;
        among = hooks_have n l b first last is (omega (arith, high, low, own.key)) (cases_eq l n);
        source = refl;
      }

  -- Where the winner of a label is one of the part's keys, its hook is there.
  pub hook_is_found : (n l : ℕ) → 1 ≤ l → l ≤ n → IsOwnKey part label l (win l) → ((x : ℕ) → IsOwnKey part label l x → win l ≤ x) → HasHook (hooks_up_to part label win n) l
  hook_is_found n l first last own least = found_by n l (best_arc part label l) refl (best_arc_is part label l) first last own least

-- A label leads along a hook of the list, or to itself where it has none.
pub record IsHooked (hooks : List Hook) (l : ℕ) : Type 0 where
  pub hook : Hook
  pub among : Contains hooks hook
  pub source : hook.source ≡ l
  pub target : hooked_to hooks l ≡ hook.target

pub record IsUnhooked (hooks : List Hook) (l : ℕ) : Type 0 where
  pub none : (h : Hook) → Contains hooks h → h.source ≢ l
  pub still : hooked_to hooks l ≡ l

hooked_step : (h : Hook) (hooks : List Hook) (l : ℕ) → (h.source ≡ l) ⊎ (h.source ≢ l) → IsHooked hooks l ⊎ IsUnhooked hooks l → IsHooked (h ∷ hooks) l ⊎ IsUnhooked (h ∷ hooks) l
hooked_step h hooks l (inl same) rest =
    inl (record { hook = h; among = contains_first h hooks; source = same; target = cond-true (h.source == l) h.target (hooked_to hooks l) (eq-eqb h.source l same) })
hooked_step h hooks l (inr apart) (inl found) =
    inl (record {
      hook = found.hook;
      among = contains_later h hooks found.hook found.among;
      source = found.source;
      target = cond-false (h.source == l) h.target (hooked_to hooks l) (ne_eqb h.source l apart) ∙ found.target;
    })
hooked_step h hooks l (inr apart) (inr free) =
    inr (record {
      none = λ x c. ⊎_elim (λ same. subst (λ (y : Hook). y.source ≢ l) same apart) (λ later. free.none x later) (contains_cases h hooks x c);
      still = cond-false (h.source == l) h.target (hooked_to hooks l) (ne_eqb h.source l apart) ∙ free.still;
    })

pub hooked_cases : (hooks : List Hook) (l : ℕ) → IsHooked hooks l ⊎ IsUnhooked hooks l
hooked_cases [] l = inr (record { none = λ h c. absurd (omega (arith, c.1)); still = refl })
hooked_cases (h ∷ hooks) l = hooked_step h hooks l (cases_eq h.source l) (hooked_cases hooks l)
