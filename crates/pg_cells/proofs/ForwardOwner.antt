-- An own cell joins what its rank puts to it and what the others send to its place.
use Rattle.std.proofs.Common.{◌≡◌, ◌≢◌, inl, inr, ℕ, ◌<◌, List, [], ◌∷◌, Bool, true, false, cond, eqb, length, map, fold, Some, refl, sym, ap, ◌∙◌, subst, get_or, set, slice_get, eq-eqb, ne_eqb, length-set, get_or-set_other}
use Rattle.std.proofs.lemmas.Bool.{cases_eq}
use Rattle.std.proofs.lemmas.Grind.{get_or-set_at}
use Rattle.std.proofs.lemmas.Option.{slice_get_within, slice_get-get_or, get_or_from_slice_get, same_Some}
use Rattle.pg_adj.specs.Portions.{Portion}
use Rattle.pg_adj.specs.declared.arcs.Ghost.{Ghost}
use Rattle.pg_cells.specs.declared.bodies.CellBody.TheVariants.{Put as PutBody, Refresh}
use Rattle.pg_cells.specs.States.{CellState, IsOwn}
use Rattle.pg_cells.specs.Steps.{Event, CellsStep, join_own}
use Rattle.pg_cells.specs.Steps.Event.{put, handled, sent, closed, round_ended}
use Rattle.pg_cells.specs.Runs.{Run, handled_from, puts_to}
use Rattle.pg_cells.specs.Freshness.{RankedPut, values_of}
use Rattle.pg_cells.proofs.ForwardGroups.{values_here, values_there}
use Rattle.pg_cells.proofs.ForwardPhases.{framed, round_held}
use Rattle.pg_cells.proofs.ForwardSender.{values_at, chosen, unchosen, refresh_skipped}

-- A portion has this vertex at place i alone, and not as a ghost.
pub record IsOwner (p : Portion) (v i : ℕ) : Type 0 where
  pub only : (place : ℕ) → IsOwn p v place → place ≡ i
  pub own : IsOwn p v i
  pub not_ghost : (slot : ℕ) (g : Ghost) → slice_get p.ghosts slot ≡ Some g → g.vertex.0 ≡ v → ⊥

values_if_here : (b : Bool) (rank other x : ℕ) (puts : List RankedPut) → rank ≡ other
    → values_of other (cond b (record { rank = rank; value = x } ∷ puts) puts) ≡ cond b (x ∷ values_of other puts) (values_of other puts)
values_if_here true rank other x puts same = values_here rank other x puts same
values_if_here false rank other x puts same = refl

values_if_there : (b : Bool) (rank other x : ℕ) (puts : List RankedPut) → rank ≢ other → values_of other (cond b (record { rank = rank; value = x } ∷ puts) puts) ≡ values_of other puts
values_if_there true rank other x puts apart = values_there rank other x puts apart
values_if_there false rank other x puts apart = refl

none_handled : {X : Type 0} (b : Bool) (x : X) (xs : List X) → cond b (x ∷ xs) xs ≡ [] → (b ≡ false) × (xs ≡ [])
none_handled true x xs h = absurd (cc h)
none_handled false x xs h = (refl, h)

module _ (r v i : ℕ) where
  -- What comes to the cell of vertex v, at place i of rank r, in order: own puts, and what others send.
  abbrev pub arrivals : List Event → List RankedPut
  arrivals [] = []
  arrivals (put u x ∷ events) = cond (eqb u v) (record { rank = r; value = x } ∷ arrivals events) (arrivals events)
  arrivals (handled from (PutBody place x) ∷ events) = cond (eqb place i) (record { rank = from; value = x } ∷ arrivals events) (arrivals events)
  arrivals (handled from (Refresh slot x) ∷ events) = arrivals events
  arrivals (sent to body ∷ events) = arrivals events
  arrivals (closed ∷ events) = arrivals events
  arrivals (round_ended ∷ events) = arrivals events

  -- of another rank arrives what was handled from it
  pub values_handled : (s : ℕ) (events : List Event) → s ≢ r → values_of s (arrivals events) ≡ values_at i (handled_from s events)
  values_handled s [] apart = refl
  values_handled s (put u x ∷ events) apart = values_if_there (eqb u v) r s x (arrivals events) (λ e. apart (sym e)) ∙ values_handled s events apart
  values_handled s (handled from (PutBody place x) ∷ events) apart =
      let rest = values_handled s events apart in
      elim (cases_eq from s) [
        | inl same ↦ values_if_here (eqb place i) from s x (arrivals events) same ∙ ap (λ l. cond (eqb place i) (x ∷ l) l) rest ∙ ap (values_at i) (sym (chosen (eqb from s) _ _ (eq-eqb from s same)))
        | inr other ↦ values_if_there (eqb place i) from s x (arrivals events) other ∙ rest ∙ ap (values_at i) (sym (unchosen (eqb from s) _ _ (ne_eqb from s other)))
      ]
  values_handled s (handled from (Refresh slot x) ∷ events) apart = values_handled s events apart ∙ sym (refresh_skipped (eqb from s) i slot x (handled_from s events))
  values_handled s (sent to body ∷ events) apart = values_handled s events apart
  values_handled s (closed ∷ events) apart = values_handled s events apart
  values_handled s (round_ended ∷ events) apart = values_handled s events apart

  other_rank : (from : ℕ) → eqb from r ≡ false → from ≢ r
  other_rank from h same = cc (h, eq-eqb from r same)

  -- of the own rank arrive its puts, where nothing is handled from itself
  pub values_put : (events : List Event) → handled_from r events ≡ [] → values_of r (arrivals events) ≡ puts_to v events
  values_put [] none = refl
  values_put (put u x ∷ events) none = values_if_here (eqb u v) r r x (arrivals events) refl ∙ ap (λ l. cond (eqb u v) (x ∷ l) l) (values_put events none)
  values_put (handled from (PutBody place x) ∷ events) none =
      let not_here = none_handled (eqb from r) (PutBody place x) (handled_from r events) none in
      values_if_there (eqb place i) from r x (arrivals events) (other_rank from not_here.0) ∙ values_put events not_here.1
  values_put (handled from (Refresh slot x) ∷ events) none = values_put events (none_handled (eqb from r) (Refresh slot x) (handled_from r events) none).1
  values_put (sent to body ∷ events) none = values_put events none
  values_put (closed ∷ events) none = values_put events none
  values_put (round_ended ∷ events) none = values_put events none

set_here : (own : List ℕ) (place i w : ℕ) → place ≡ i → i < length own → slice_get (set own place w) i ≡ Some w
set_here own place i w same low =
    slice_get-get_or (set own place w) i 0 (subst (λ n. i < n) (sym (length-set own place w)) low) ∙ ap Some (get_or-set_at own place i w 0 (sym same) (subst (λ j. j < length own) (sym same) low))

set_there : (own : List ℕ) (place i w y : ℕ) → place ≢ i → slice_get own i ≡ Some y → slice_get (set own place w) i ≡ Some y
set_there own place i w y apart there =
    slice_get-get_or (set own place w) i 0 (subst (λ n. i < n) (sym (length-set own place w)) (slice_get_within own i y there))
    ∙ ap Some (get_or-set_other own place i w 0 (λ e. apart (sym e)) ∙ get_or_from_slice_get own i y 0 there)

module _ (join : ℕ → ℕ → ℕ) (start : ℕ → ℕ) (p : Portion) (r v i : ℕ) (owner : IsOwner p v i) where
  -- what these events make of a value of the cell
  abbrev value_after : ℕ → List Event → ℕ
  value_after y events = fold join y (map (λ a. a.value) (arrivals r v i events))

  -- After a step the cell has a value, of which the rest makes the same as all makes of the value before.
  abbrev Continues : CellState → ℕ → Event → List Event → Type 0
  Continues t y e events = (z : ℕ) × (slice_get t.own i ≡ Some z) × (value_after z events ≡ value_after y (e ∷ events))

  joined_if : (b : Bool) (rank x y : ℕ) (puts : List RankedPut) → b ≡ true
      → fold join (join y x) (map (λ a. a.value) puts) ≡ fold join y (map (λ a. a.value) (cond b (record { rank = rank; value = x } ∷ puts) puts))
  joined_if true rank x y puts h = refl
  joined_if false rank x y puts h = absurd (cc h)

  skipped_if : (b : Bool) (rank x y : ℕ) (puts : List RankedPut) → b ≡ false
      → fold join y (map (λ a. a.value) puts) ≡ fold join y (map (λ a. a.value) (cond b (record { rank = rank; value = x } ∷ puts) puts))
  skipped_if true rank x y puts h = absurd (cc h)
  skipped_if false rank x y puts h = refl

  cell_joined : (s t : CellState) (y place x : ℕ) → slice_get s.own i ≡ Some y → place ≡ i → t ≡ join_own join start place x s → slice_get t.own i ≡ Some (join y x)
  cell_joined s t y place x there here is =
      ap (λ c. slice_get c.own i) is ∙ set_here s.own place i _ here (slice_get_within s.own i y there)
      ∙ ap (λ k. Some (join (get_or s.own k 0) x)) here ∙ ap (λ u. Some (join u x)) (get_or_from_slice_get s.own i y 0 there)

  cell_kept : (s t : CellState) (y place x : ℕ) → slice_get s.own i ≡ Some y → place ≢ i → t ≡ join_own join start place x s → slice_get t.own i ≡ Some y
  cell_kept s t y place x there apart is = ap (λ c. slice_get c.own i) is ∙ set_there s.own place i _ y apart there

  own_put : (s t : CellState) (y u x place : ℕ) (events : List Event) → slice_get s.own i ≡ Some y → IsOwn p u place → t ≡ join_own join start place x s → Continues t y (put u x) events
  own_put s t y u x place events there own is = elim (cases_eq u v) [
    | inl same ↦
        let here : place ≡ i = owner.only place (own ∙ ap Some same) in
        (join y x, cell_joined s t y place x there here is, joined_if (eqb u v) r x y (arrivals r v i events) (eq-eqb u v same))
    | inr apart ↦
        let elsewhere : place ≢ i = λ e. apart (same_Some u v (sym own ∙ ap (slice_get p.vertices) e ∙ owner.own)) in
        (y, cell_kept s t y place x there elsewhere is, skipped_if (eqb u v) r x y (arrivals r v i events) (ne_eqb u v apart))
  ]

  ghost_put : (s t : CellState) (y u x slot : ℕ) (g : Ghost) (events : List Event) → slice_get s.own i ≡ Some y → slice_get p.ghosts slot ≡ Some g → g.vertex.0 ≡ u → t.own ≡ s.own
      → Continues t y (put u x) events
  ghost_put s t y u x slot g events there at vertex same =
      (y, ap (λ l. slice_get l i) same ∙ there, skipped_if (eqb u v) r x y (arrivals r v i events) (ne_eqb u v (λ e. owner.not_ghost slot g at (vertex ∙ e))))

  put_handled : (s t : CellState) (y from place x : ℕ) (events : List Event) → slice_get s.own i ≡ Some y → t ≡ join_own join start place x s → Continues t y (handled from (PutBody place x)) events
  put_handled s t y from place x events there is = elim (cases_eq place i) [
    | inl here ↦ (join y x, cell_joined s t y place x there here is, joined_if (eqb place i) from x y (arrivals r v i events) (eq-eqb place i here))
    | inr apart ↦ (y, cell_kept s t y place x there apart is, skipped_if (eqb place i) from x y (arrivals r v i events) (ne_eqb place i apart))
  ]

  one_more : (s : CellState) (e : Event) (t : CellState) (y : ℕ) (events : List Event) → s.part ≡ p → slice_get s.own i ≡ Some y → CellsStep join start s e t → Continues t y e events
  one_more s (put u x) t y events part there step = elim step.1 [
    | inl own ↦ own_put s t y u x own.0 events there (ap (λ q. slice_get q.vertices own.0) (sym part) ∙ own.1) own.2
    | inr ghost ↦ ghost_put s t y u x ghost.0 ghost.1.0 events there (ap (λ q. slice_get q.ghosts ghost.0) (sym part) ∙ ghost.1.1) ghost.1.2 (ap (λ c. c.own) ghost.2)
  ]
  one_more s (handled from (PutBody place x)) t y events part there step = put_handled s t y from place x events there step
  one_more s (handled from (Refresh slot x)) t y events part there step = (y, ap (λ c. slice_get c.own i) step ∙ there, refl)
  one_more s (sent to body) t y events part there step = elim step [
    | inl paid ↦ (y, ap (λ c. slice_get c.own i) paid.after ∙ there, refl)
    | inr (inl note) ↦ (y, ap (λ c. slice_get c.own i) note.after ∙ there, refl)
    | inr (inr pending) ↦ (y, ap (λ c. slice_get c.own i) pending.after ∙ there, refl)
  ]
  one_more s closed t y events part there step = (y, ap (λ c. slice_get c.own i) step.1 ∙ there, refl)
  one_more s round_ended t y events part there step =
      (y, ap (λ c. slice_get c.own i) step.1 ∙ ap (λ held. slice_get held.2 i) (round_held join start s.phase s) ∙ there, refl)

  -- The cell at the end has joined all that came to it.
  pub joins_arrivals : (events : List Event) (s t : CellState) (y : ℕ) → s.part ≡ p → slice_get s.own i ≡ Some y → Run join start s events t
      → slice_get t.own i ≡ Some (fold join y (map (λ a. a.value) (arrivals r v i events)))
  joins_arrivals [] s t y part there run = ap (λ c. slice_get c.own i) (sym run) ∙ there
  joins_arrivals (e ∷ events) s t y part there run =
      let next = one_more s e run.0 y events part there run.1 in
      joins_arrivals events run.0 t next.0 (ap (λ f. f.0) (framed join start s e run.0 run.1) ∙ part) next.1 run.2 ∙ ap Some next.2
