-- What ranks send and handle in a round in which their cells refresh the ghosts of others.
use Rattle.std.proofs.Common.{◌≡◌, ◌≢◌, ⊎_elim, ℕ, ◌<◌, ◌==◌, true, false, List, [], ◌∷◌, All, Contains, Some, length, slice_get, slice_index, refl, sym, ap, ◌∙◌, subst, arith, eq-eqb, eqb-true}
use Rattle.std.specs.Prelude.{⊤, if◌then◌else◌}
use Rattle.std.proofs.lemmas.Bool.{cases_eq}
use Rattle.std.proofs.lemmas.List.{length-set}
use Rattle.std.proofs.lemmas.List.Elements.{All-nil}
use Rattle.std.proofs.lemmas.Option.{slice_get_within}
use Rattle.pg_adj.specs.Portions.{Portion}
use Rattle.pg_cells.specs.declared.refreshes.PendingRefresh.{PendingRefresh}
use Rattle.pg_cells.specs.declared.bodies.CellBody.{CellBody}
use Rattle.pg_cells.specs.declared.bodies.CellBody.TheVariants.{Put as PutBody, Refresh}
use Rattle.pg_cells.specs.States.{CellState, refreshes_of}
use Rattle.pg_cells.specs.Steps.{Event, SendsRefresh, after_body}
use Rattle.pg_cells.specs.Steps.Event.{put, handled, sent, closed, round_ended}
use Rattle.pg_cells.specs.Runs.{handled_from, sent_to}
use Rattle.pg_cells.proofs.BackwardLists.{set_here, set_else, all_at, all_if, all_rest, contains_if, contains_here, contains_either}
use Rattle.pg_cells.proofs.BackwardRounds.{Refreshes}

-- each body that is handled, with the rank that it came from
abbrev pub EachHandled : (ℕ → CellBody → Type 0) → List Event → Type 0
EachHandled P [] = ⊤
EachHandled P (put v x ∷ events) = EachHandled P events
EachHandled P (handled from body ∷ events) = P from body × EachHandled P events
EachHandled P (sent to body ∷ events) = EachHandled P events
EachHandled P (closed ∷ events) = EachHandled P events
EachHandled P (round_ended ∷ events) = EachHandled P events

pub each_handled : (P : ℕ → CellBody → Type 0) (events : List Event) → ((from : ℕ) → All (P from) (handled_from from events)) → EachHandled P events
each_handled P [] all = tt
each_handled P (put v x ∷ events) all = each_handled P events all
each_handled P (handled from body ∷ events) all =
    let here : All (P from) (body ∷ handled_from from events) = subst (λ b. All (P from) (if b then body ∷ handled_from from events else handled_from from events)) (eq-eqb from from refl) (all from) in
    (here 0 body (omega arith), each_handled P events (λ rank. all_rest (P rank) (from == rank) body (handled_from rank events) (all rank)))
each_handled P (sent to body ∷ events) all = each_handled P events all
each_handled P (closed ∷ events) all = each_handled P events all
each_handled P (round_ended ∷ events) all = each_handled P events all

-- the body refreshes a ghost
abbrev pub IsRefresh : CellBody → Type 0
IsRefresh body = (slot : ℕ) × (x : ℕ) × (body ≡ Refresh slot x)

-- the value of an own cell, on its way to a holder
abbrev pub IsRefreshOf : Portion → List ℕ → ℕ → CellBody → Type 0
IsRefreshOf part own to body = (entry : ℕ) × (pending : PendingRefresh) × (slice_get (refreshes_of part) entry ≡ Some pending) × (pending.holder.rank.0 ≡ to) × (body ≡ Refresh pending.holder.slot (slice_index own pending.place))

-- a refresh of this slot has this value
abbrev pub Carries : ℕ → ℕ → CellBody → Type 0
Carries slot x body = (y : ℕ) → body ≡ Refresh slot y → y ≡ x

put_is_none : (place value : ℕ) → IsRefresh (PutBody place value) → ⊥
put_is_none place value r = let h : PutBody place value ≡ Refresh r.0 r.1 = r.2 in absurd (cc)

module _ (join : ℕ → ℕ → ℕ) (start : ℕ → ℕ) where
  -- all that is sent are refreshes
  pub only_refreshes : (to : ℕ) (u : CellState) (events : List Event) (s : CellState) → Refreshes join start s events u → All IsRefresh (sent_to to events)
  only_refreshes to u [] s run = All-nil IsRefresh
  only_refreshes to u (put v x ∷ events) s run = absurd run
  only_refreshes to u (closed ∷ events) s run = absurd run
  only_refreshes to u (round_ended ∷ events) s run = absurd run
  only_refreshes to u (handled from body ∷ events) s run = only_refreshes to u events (after_body join start body s) run
  only_refreshes to u (sent rank body ∷ events) s run =
      let step = run.1 in
      all_if IsRefresh (rank == to) body (sent_to to events) (λ h. (step.pending.holder.slot, slice_index s.own step.pending.place, step.body_is)) (only_refreshes to u events run.0 run.2)

  -- where all that is handled are refreshes, the own cells stay as they are
  pub own_stays : (u : CellState) (events : List Event) (s : CellState) → Refreshes join start s events u → EachHandled (λ from body. IsRefresh body) events → u.own ≡ s.own
  own_stays u [] s run each = ap (λ c. c.own) (sym run)
  own_stays u (put v x ∷ events) s run each = absurd run
  own_stays u (closed ∷ events) s run each = absurd run
  own_stays u (round_ended ∷ events) s run each = absurd run
  own_stays u (handled from (PutBody place value) ∷ events) s run each = absurd (put_is_none place value each.0)
  own_stays u (handled from (Refresh slot value) ∷ events) s run each = own_stays u events (after_body join start (Refresh slot value) s) run each.1
  own_stays u (sent rank body ∷ events) s run each = own_stays u events run.0 run.2 each ∙ ap (λ c. c.own) run.1.after

  -- what is sent are the values of the own cells
  pub values_sent : (part : Portion) (own : List ℕ) (to : ℕ) (u : CellState) (events : List Event) (s : CellState) → Refreshes join start s events u → EachHandled (λ from body. IsRefresh body) events
      → s.part ≡ part → s.own ≡ own → All (IsRefreshOf part own to) (sent_to to events)
  values_sent part own to u [] s run each part_is own_is = All-nil (IsRefreshOf part own to)
  values_sent part own to u (put v x ∷ events) s run each part_is own_is = absurd run
  values_sent part own to u (closed ∷ events) s run each part_is own_is = absurd run
  values_sent part own to u (round_ended ∷ events) s run each part_is own_is = absurd run
  values_sent part own to u (handled from (PutBody place value) ∷ events) s run each part_is own_is = absurd (put_is_none place value each.0)
  values_sent part own to u (handled from (Refresh slot value) ∷ events) s run each part_is own_is =
      values_sent part own to u events (after_body join start (Refresh slot value) s) run each.1 part_is own_is
  values_sent part own to u (sent rank body ∷ events) s run each part_is own_is =
      let step = run.1 in
      all_if (IsRefreshOf part own to) (rank == to) body (sent_to to events)
      (λ h. (step.entry, step.pending, ap (λ p. slice_get (refreshes_of p) step.entry) (sym part_is) ∙ step.there, sym step.rank ∙ eqb-true rank to h, step.body_is ∙ ap (λ l. Refresh step.pending.holder.slot (slice_index l step.pending.place)) own_is))
      (values_sent part own to u events run.0 run.2 each (ap (λ c. c.part) step.after ∙ part_is) (ap (λ c. c.own) step.after ∙ own_is))

  -- an own cell that is yet to be sent to a holder, and is not in the end, was sent
  pub pending_sent : (part : Portion) (own : List ℕ) (entry : ℕ) (pending : PendingRefresh) → slice_get (refreshes_of part) entry ≡ Some pending → (u : CellState) → All (λ unsent. unsent ≡ false) u.unsent
      → (events : List Event) (s : CellState) → Refreshes join start s events u → EachHandled (λ from body. IsRefresh body) events
      → s.part ≡ part → s.own ≡ own → slice_get s.unsent entry ≡ Some true
      → Contains (sent_to pending.holder.rank.0 events) (Refresh pending.holder.slot (slice_index own pending.place))
  pending_sent part own entry pending there u none [] s run each part_is own_is unsent =
      let all : true ≡ false = all_at (λ b. b ≡ false) s.unsent entry true (subst (λ (c : CellState). All (λ b. b ≡ false) c.unsent) (sym run) none) unsent in absurd (cc)
  pending_sent part own entry pending there u none (put v x ∷ events) s run each part_is own_is unsent = absurd run
  pending_sent part own entry pending there u none (closed ∷ events) s run each part_is own_is unsent = absurd run
  pending_sent part own entry pending there u none (round_ended ∷ events) s run each part_is own_is unsent = absurd run
  pending_sent part own entry pending there u none (handled from (PutBody place value) ∷ events) s run each part_is own_is unsent = absurd (put_is_none place value each.0)
  pending_sent part own entry pending there u none (handled from (Refresh slot value) ∷ events) s run each part_is own_is unsent =
      pending_sent part own entry pending there u none events (after_body join start (Refresh slot value) s) run each.1 part_is own_is unsent
  pending_sent part own entry pending there u none (sent rank body ∷ events) s run each part_is own_is unsent =
      let step = run.1 in
      ⊎_elim
      (λ (same : entry ≡ step.entry). this_one part own entry pending there s run.0 rank body (sent_to pending.holder.rank.0 events) step part_is own_is same)
      (λ (other : entry ≢ step.entry). contains_if (rank == pending.holder.rank.0) body (sent_to pending.holder.rank.0 events) (Refresh pending.holder.slot (slice_index own pending.place))
      (pending_sent part own entry pending there u none events run.0 run.2 each (ap (λ c. c.part) step.after ∙ part_is) (ap (λ c. c.own) step.after ∙ own_is)
      (ap (λ c. slice_get c.unsent entry) step.after ∙ set_else s.unsent step.entry entry false other ∙ unsent)))
      (cases_eq entry step.entry)
    where
      this_one : (part : Portion) (own : List ℕ) (entry : ℕ) (pending : PendingRefresh) → slice_get (refreshes_of part) entry ≡ Some pending → (s t : CellState) (rank : ℕ) (body : CellBody) (bodies : List CellBody) (step : SendsRefresh s rank body t)
          → s.part ≡ part → s.own ≡ own → entry ≡ step.entry → Contains (if rank == pending.holder.rank.0 then body ∷ bodies else bodies) (Refresh pending.holder.slot (slice_index own pending.place))
      this_one part own entry pending there s t rank body bodies step part_is own_is same =
          let both : Some step.pending ≡ Some pending = sym step.there ∙ ap (λ p. slice_get (refreshes_of p) step.entry) part_is ∙ ap (slice_get (refreshes_of part)) (sym same) ∙ there in
          let is : step.pending ≡ pending = cc in
          contains_here (rank == pending.holder.rank.0) body bodies (Refresh pending.holder.slot (slice_index own pending.place)) (eq-eqb rank pending.holder.rank.0 (step.rank ∙ ap (λ d. d.holder.rank.0) is))
          (step.body_is ∙ ap (λ l. Refresh step.pending.holder.slot (slice_index l step.pending.place)) own_is ∙ ap (λ d. Refresh d.holder.slot (slice_index own d.place)) is)

  -- a ghost after one body
  refreshed : (slot x : ℕ) (body : CellBody) (s : CellState) → body ≡ Refresh slot x → slot < length s.ghosts → slice_get (after_body join start body s).ghosts slot ≡ Some (Some x)
  refreshed slot x body s is within = ap (λ b. slice_get (after_body join start b s).ghosts slot) is ∙ set_here s.ghosts slot (Some x) within

  as_many : (body : CellBody) (s : CellState) → length (after_body join start body s).ghosts ≡ length s.ghosts
  as_many (PutBody place value) s = refl
  as_many (Refresh slot value) s = length-set s.ghosts slot (Some value)

  stays : (slot x : ℕ) (body : CellBody) (s : CellState) → Carries slot x body → slice_get s.ghosts slot ≡ Some (Some x) → slice_get (after_body join start body s).ghosts slot ≡ Some (Some x)
  stays slot x (PutBody place value) s carries has = has
  stays slot x (Refresh at value) s carries has =
      ⊎_elim
      (λ (same : slot ≡ at).
      let is : value ≡ x = carries value (ap (λ k. Refresh k value) (sym same)) in
      refreshed slot x (Refresh at value) s (ap (λ k. Refresh k value) (sym same) ∙ ap (Refresh slot) is) (slice_get_within s.ghosts slot (Some x) has))
      (λ (other : slot ≢ at). set_else s.ghosts at slot (Some value) other ∙ has)
      (cases_eq slot at)

  -- a ghost that has the value keeps it, where all refreshes of its slot have it
  pub ghost_stays : (slot x : ℕ) (u : CellState) (events : List Event) (s : CellState) → Refreshes join start s events u → EachHandled (λ from body. Carries slot x body) events
      → slice_get s.ghosts slot ≡ Some (Some x) → slice_get u.ghosts slot ≡ Some (Some x)
  ghost_stays slot x u [] s run each has = subst (λ (c : CellState). slice_get c.ghosts slot ≡ Some (Some x)) run has
  ghost_stays slot x u (put v y ∷ events) s run each has = absurd run
  ghost_stays slot x u (closed ∷ events) s run each has = absurd run
  ghost_stays slot x u (round_ended ∷ events) s run each has = absurd run
  ghost_stays slot x u (handled from body ∷ events) s run each has = ghost_stays slot x u events (after_body join start body s) run each.1 (stays slot x body s each.0 has)
  ghost_stays slot x u (sent rank body ∷ events) s run each has = ghost_stays slot x u events run.0 run.2 each (ap (λ c. slice_get c.ghosts slot) run.1.after ∙ has)

  -- a ghost takes the value, where a refresh of its slot is handled and all have it
  pub ghost_takes : (slot x home : ℕ) (u : CellState) (events : List Event) (s : CellState) → Refreshes join start s events u → EachHandled (λ from body. Carries slot x body) events
      → slot < length s.ghosts → Contains (handled_from home events) (Refresh slot x) → slice_get u.ghosts slot ≡ Some (Some x)
  ghost_takes slot x home u [] s run each within c = absurd (omega (arith, c.1))
  ghost_takes slot x home u (put v y ∷ events) s run each within c = absurd run
  ghost_takes slot x home u (closed ∷ events) s run each within c = absurd run
  ghost_takes slot x home u (round_ended ∷ events) s run each within c = absurd run
  ghost_takes slot x home u (handled from body ∷ events) s run each within c =
      ⊎_elim
      (λ (this : body ≡ Refresh slot x). ghost_stays slot x u events (after_body join start body s) run each.1 (refreshed slot x body s this within))
      (λ (l : Contains (handled_from home events) (Refresh slot x)). ghost_takes slot x home u events (after_body join start body s) run each.1 (subst (λ n. slot < n) (sym (as_many body s)) within) l)
      (contains_either (from == home) body (handled_from home events) (Refresh slot x) c)
  ghost_takes slot x home u (sent rank body ∷ events) s run each within c =
      ghost_takes slot x home u events run.0 run.2 each (subst (λ n. slot < n) (sym (ap (λ c. length c.ghosts) run.1.after)) within) c
