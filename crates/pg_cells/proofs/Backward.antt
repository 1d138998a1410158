-- With backward, each ghost is its owner's cell after a synchronize, where ghosts and holders mirror each other.
use Rattle.std.proofs.Common.{◌≡◌, ⊎_elim, ℕ, suc, ◌<◌, ◌≤◌, true, false, List, [], All, Contains, Some, length, replicate, slice_get, slice_index, sym, ap, ◌∙◌, subst, arith}
use Rattle.std.proofs.lemmas.Bool.{cases_lt}
use Rattle.std.proofs.lemmas.List.{get_or_past}
use Rattle.std.proofs.lemmas.List.Elements.{All-nil, All-weaker}
use Rattle.std.proofs.lemmas.Option.{slice_get_within, get_or_from_slice_get}
use Rattle.pg_adj.specs.declared.arcs.Ghost.{Ghost}
use Rattle.pg_adj.specs.Portions.{Portion}
use Rattle.pg_cells.specs.declared.bodies.CellBody.{CellBody}
use Rattle.pg_cells.specs.declared.bodies.CellBody.TheVariants.{Refresh}
use Rattle.pg_cells.specs.declared.flags.Flags.{Flags}
use Rattle.pg_cells.specs.declared.refreshes.PendingRefresh.{PendingRefresh}
use Rattle.pg_cells.specs.States.{CellState, new_cells, refreshes_of}
use Rattle.pg_cells.specs.Steps.{Event}
use Rattle.pg_cells.specs.Runs.{events_of, handled_from, sent_to}
use Rattle.pg_cells.specs.RefreshesMirrored.{AreRefreshesMirrored, IsPendingFrom, IsPendingTo}
use Rattle.pg_cells.specs.Freshness.{events_at, HaveSynchronized, AreFresh, IsFresh}
use Rattle.pg_cells.proofs.BackwardLists.{some_at, replicate_at}
use Rattle.pg_cells.proofs.BackwardSteps.{IsOver, new_over, over_run}
use Rattle.pg_cells.proofs.BackwardRounds.{Begins, LastRound, Refreshes, begins, last_round}
use Rattle.pg_cells.proofs.BackwardBodies.{EachHandled, each_handled, IsRefresh, IsRefreshOf, Carries, only_refreshes, own_stays, values_sent, pending_sent, ghost_takes}

module _ (join : ℕ → ℕ → ℕ) (start : ℕ → ℕ) where
  -- What one rank does in the last round, of which these are the events.
  record Last (part : Portion) (events : List Event) (t : CellState) : Type 0 where
    s : CellState
    u : CellState
    run : Refreshes join start s events u
    part_is : s.part ≡ part
    ghosts_each : length s.ghosts ≡ length part.ghosts
    all_unsent : s.unsent ≡ replicate (length (refreshes_of part)) true
    none_left : All (λ unsent. unsent ≡ false) u.unsent
    own_after : t.own ≡ u.own
    ghosts_after : t.ghosts ≡ u.ghosts

  last_from : (part : Portion) (flags : Flags) (events : List Event) (t : CellState) (b : Begins join start part flags events t) → LastRound join start b.s (events_of 0 b.rest) t → Last part events t
  last_from part flags events t b l = record {
    s = b.s;
    u = l.u;
    run = subst (λ es. Refreshes join start b.s es l.u) b.same l.run;
    part_is = b.over.part_is;
    ghosts_each = b.over.ghosts_each;
    all_unsent = b.all_unsent;
    none_left = l.nothing.unsent l.refreshing;
    own_after = ap (λ c. c.own) l.after;
    ghosts_after = ap (λ c. c.ghosts) l.after;
  }

  module _ (flags : Flags) (parts : List Portion) (runs : List (List Event)) (cells : List CellState) (m : AreRefreshesMirrored parts) (h : HaveSynchronized join start flags parts runs cells) (backward : flags.backward ≡ true) where
    -- the events of a rank in the last round
    abbrev last_events : ℕ → List Event
    last_events r = events_of (suc h.closing) (events_at runs r)

    last_of : (r : ℕ) (part : Portion) (t : CellState) → slice_get parts r ≡ Some part → slice_get cells r ≡ Some t → Last part (last_events r) t
    last_of r part t at_part at_cell =
        let within : r < length parts = slice_get_within parts r part at_part in
        let b = begins join start part flags backward t (events_at runs r) h.closing (new_cells start part flags) (h.ran r part t at_part at_cell) (new_over start part flags)
        (omega (arith, h.all_rounds r within)) (h.at_end r within) (h.all_close r within) in
        last_from part flags (last_events r) t b (last_round join start t b.rest b.s b.run b.quiet b.one b.ends)

    cell_at : (r : ℕ) → r < length parts → (t : CellState) × (slice_get cells r ≡ Some t)
    cell_at r within = some_at cells r (omega (arith, within, h.each_cells))

    -- a rank that is none has no events
    none_past : (r : ℕ) → length parts ≤ r → last_events r ≡ []
    none_past r past = ap (events_of (suc h.closing)) (get_or_past runs r [] (omega (arith, past, h.each_run)))

    -- what one rank sent to another in the last round was handled there
    delivered : (r from : ℕ) → r < length parts → handled_from from (last_events r) ≡ sent_to r (last_events from)
    delivered r from within = h.delivered r from (suc h.closing) within (omega arith)

    -- a fact of all that any rank sends in the last round
    all_sent : (P : CellBody → Type 0) (from to : ℕ) → ((part : Portion) (t : CellState) → slice_get parts from ≡ Some part → slice_get cells from ≡ Some t → All P (sent_to to (last_events from)))
        → All P (sent_to to (last_events from))
    all_sent P from to f =
        ⊎_elim
        (λ (below : from < length parts). let part = some_at parts from below in let t = cell_at from below in f part.0 t.0 part.1 t.1)
        (λ (past : length parts ≤ from). subst (λ events. All P (sent_to to events)) (sym (none_past from past)) (All-nil P))
        (cases_lt from (length parts))

    -- a fact of all that is sent to a rank is one of all that it handles
    all_handled : (P : CellBody → Type 0) (r : ℕ) → r < length parts → ((from : ℕ) → All P (sent_to r (last_events from))) → EachHandled (λ from body. P body) (last_events r)
    all_handled P r within f = each_handled (λ from body. P body) (last_events r) (λ from. subst (All P) (sym (delivered r from within)) (f from))

    refreshes_handled : (r : ℕ) → r < length parts → EachHandled (λ from body. IsRefresh body) (last_events r)
    refreshes_handled r within = all_handled IsRefresh r within
        (λ from. all_sent IsRefresh from r (λ part t at_part at_cell. let l = last_of from part t at_part at_cell in only_refreshes join start r l.u (last_events from) l.s l.run))

    -- the own cells were at the start of the last round what they are in the end
    same_own : (r : ℕ) (part : Portion) (t : CellState) (at_part : slice_get parts r ≡ Some part) (at_cell : slice_get cells r ≡ Some t) → (last_of r part t at_part at_cell).s.own ≡ t.own
    same_own r part t at_part at_cell =
        let l = last_of r part t at_part at_cell in
        sym (l.own_after ∙ own_stays join start l.u (last_events r) l.s l.run (refreshes_handled r (slice_get_within parts r part at_part)))

    values_from : (from to : ℕ) (part : Portion) (t : CellState) → slice_get parts from ≡ Some part → slice_get cells from ≡ Some t → All (IsRefreshOf part t.own to) (sent_to to (last_events from))
    values_from from to part t at_part at_cell =
        let l = last_of from part t at_part at_cell in
        values_sent join start part t.own to l.u (last_events from) l.s l.run (refreshes_handled from (slice_get_within parts from part at_part)) l.part_is (same_own from part t at_part at_cell)

    over : (r : ℕ) (part : Portion) (t : CellState) → slice_get parts r ≡ Some part → slice_get cells r ≡ Some t → IsOver part flags t
    over r part t at_part at_cell = over_run join start part flags (events_at runs r) (new_cells start part flags) t (h.ran r part t at_part at_cell) (new_over start part flags)

    module _ (r slot : ℕ) (part : Portion) (g : Ghost) (owner : CellState) (at_part : slice_get parts r ≡ Some part) (at_ghost : slice_get part.ghosts slot ≡ Some g) (at_owner : slice_get cells g.home.0 ≡ Some owner) where
      -- a refresh of the slot has the value of the owner's cell
      carried : (from : ℕ) (sender : Portion) (t : CellState) (body : CellBody) → slice_get parts from ≡ Some sender → slice_get cells from ≡ Some t → IsRefreshOf sender t.own r body → Carries slot (slice_index owner.own g.place) body
      carried from sender t body at_sender at_cell is y e =
          let held : IsPendingTo parts from is.1 = m.held from is.0 sender is.1 at_sender is.2 in
          let both : Refresh is.1.holder.slot (slice_index t.own is.1.place) ≡ Refresh slot y = sym is.4 ∙ e in
          let slot_is : is.1.holder.slot ≡ slot = cc in
          let y_is : y ≡ slice_index t.own is.1.place = cc in
          let parts_same : Some held.holder ≡ Some part = sym held.there ∙ ap (slice_get parts) is.3 ∙ at_part in
          let holder_is : held.holder ≡ part = cc in
          let ghosts_same : Some held.ghost_there ≡ Some g = sym held.held ∙ ap (λ p. slice_get p.ghosts is.1.holder.slot) holder_is ∙ ap (slice_get part.ghosts) slot_is ∙ at_ghost in
          let ghost_is : held.ghost_there ≡ g = cc in
          let from_is : from ≡ g.home.0 = sym held.home ∙ ap (λ x. x.home.0) ghost_is in
          let place_is : is.1.place ≡ g.place = sym held.place ∙ ap (λ x. x.place) ghost_is in
          let cells_same : Some t ≡ Some owner = sym at_cell ∙ ap (slice_get cells) from_is ∙ at_owner in
          let cell_is : t ≡ owner = cc in
          y_is ∙ ap (λ c. slice_index c.own is.1.place) cell_is ∙ ap (slice_index owner.own) place_is

      all_carried : r < length parts → EachHandled (λ from body. Carries slot (slice_index owner.own g.place) body) (last_events r)
      all_carried within = all_handled (Carries slot (slice_index owner.own g.place)) r within
          (λ from. all_sent (Carries slot (slice_index owner.own g.place)) from r (λ sender t at_sender at_cell.
          All-weaker (IsRefreshOf sender t.own r) (Carries slot (slice_index owner.own g.place)) (λ body is. carried from sender t body at_sender at_cell is) (sent_to r (last_events from)) (values_from from r sender t at_sender at_cell)))

      -- the owner's cell was sent to the slot
      one_sent : IsPendingFrom parts r slot g → Contains (sent_to r (last_events g.home.0)) (Refresh slot (slice_index owner.own g.place))
      one_sent k =
          let l = last_of g.home.0 k.home owner k.there at_owner in
          let pending : PendingRefresh = record { place = g.place; holder = record { rank = record { 0 = r }; slot = slot } } in
          pending_sent join start k.home owner.own k.entry pending k.pending l.u l.none_left (last_events g.home.0) l.s l.run (refreshes_handled g.home.0 (slice_get_within parts g.home.0 k.home k.there))
          l.part_is (same_own g.home.0 k.home owner k.there at_owner) (ap (λ b. slice_get b k.entry) l.all_unsent ∙ replicate_at (length (refreshes_of k.home)) k.entry true (slice_get_within (refreshes_of k.home) k.entry pending k.pending))

      takes : (t : CellState) → slice_get cells r ≡ Some t → slice_get t.ghosts slot ≡ Some (Some (slice_index owner.own g.place))
      takes t at_cell =
          let within : r < length parts = slice_get_within parts r part at_part in
          let l = last_of r part t at_part at_cell in
          let k = m.kept r slot part g at_part at_ghost in
          let there : slot < length l.s.ghosts = omega (arith, slice_get_within part.ghosts slot g at_ghost, l.ghosts_each) in
          ap (λ list. slice_get list slot) l.ghosts_after
          ∙ ghost_takes join start slot (slice_index owner.own g.place) g.home.0 l.u (last_events r) l.s l.run (all_carried within) there
          (subst (λ list. Contains list (Refresh slot (slice_index owner.own g.place))) (sym (delivered r g.home.0 within)) (one_sent k))

    fresh : (r slot : ℕ) (part : Portion) (s : CellState) (g : Ghost) → slice_get parts r ≡ Some part → slice_get cells r ≡ Some s → slice_get part.ghosts slot ≡ Some g
        → IsFresh cells s slot g
    fresh r slot part s g at_part at_cell at_ghost =
        let k = m.kept r slot part g at_part at_ghost in
        let o = cell_at g.home.0 (slice_get_within parts g.home.0 k.home k.there) in
        let is_over = over g.home.0 k.home o.0 k.there o.1 in
        let place : g.place < length o.0.own = omega (arith, slice_get_within k.home.vertices g.place g.vertex.0 k.vertex, is_over.own_each) in
        let x = some_at o.0.own g.place place in
        record {
          owner = o.0;
          value = x.0;
          home = o.1;
          vertex = ap (λ p. slice_get p.vertices g.place) is_over.part_is ∙ k.vertex;
          own_value = x.1;
          ghost_value = takes r slot part g o.0 at_part at_ghost o.1 s at_cell ∙ ap (λ y. Some (Some y)) (get_or_from_slice_get o.0.own g.place x.0 0 x.1);
        }

    pub backward_refreshes : AreFresh cells
    backward_refreshes r slot s g at_cell at_ghost =
        let within : r < length parts = omega (arith, slice_get_within cells r s at_cell, h.each_cells) in
        let part = some_at parts r within in
        fresh r slot part.0 s g part.1 at_cell (ap (λ p. slice_get p.ghosts slot) (sym (over r part.0 s part.1 at_cell).part_is) ∙ at_ghost)
