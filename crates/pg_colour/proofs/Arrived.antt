-- What ranks have handled are each other's refreshes, and these leave in the ghosts what the owners had.
use Rattle.std.proofs.Common.{◌≡◌, ◌≢◌, ◌==◌, ℕ, zero, suc, ◌+◌, ◌*◌, ◌/◌, ◌<◌, ◌≤◌, List, [], ◌∷◌, Option, Some, None, map, filter, slice_get, refl, sym, ◌∙◌, ap, subst, ⊎_elim, arith, All}
use Rattle.std.proofs.lemmas.Bool.{cases_eq, eq-eqb, ne_eqb, cond-true, cond-false}
use Rattle.std.proofs.lemmas.Option.{same_Some, none-some, get_or_from_slice_get}
use Rattle.std.proofs.lemmas.List.Elements.{All-weaker}
use Rattle.pg_base.specs.Graph.{Graph}
use Rattle.pg_dist.specs.Sharing.{Sharing}
use Rattle.pg_group.specs.declared.messages.Body.{Body}
use Rattle.pg_group.specs.declared.messages.Vote.{Vote}
use Rattle.pg_group.specs.Book.{PairLists}
use Rattle.pg_group.specs.Ranked.{IsOther, list_at}
use Rattle.pg_group.specs.Rolls.{voted}
use Rattle.pg_group.specs.Rounds.{items_of_round}
use Rattle.pg_adj.specs.declared.arcs.Ghost.{Ghost}
use Rattle.pg_adj.specs.Portions.{Portion}
use Rattle.pg_adj.proofs.MirrorLists.{index_of}
use Rattle.pg_cells.specs.declared.bodies.CellBody.{CellBody}
use Rattle.pg_cells.specs.declared.bodies.CellBody.TheVariants.{Refresh}
use Rattle.pg_cells.specs.declared.refreshes.PendingRefresh.{PendingRefresh}
use Rattle.pg_cells.specs.States.{refreshes_of}
use Rattle.pg_cells.specs.RefreshesMirrored.{AreRefreshesMirrored}
use Rattle.pg_cells.proofs.Mirror.{mirrored}
use Rattle.pg_colour.specs.Passes.{Cells}
use Rattle.pg_colour.specs.Refreshed.{refresh_of, refreshes_to, IsRefreshTo, IsRefreshFrom, AreSound, values_for, last_or, home_of, seen_after}
use Rattle.pg_colour.specs.LocalColour.{State, History, KeepsPasses}
use Rattle.pg_colour.proofs.Neighbours.{rank_below}
use Rattle.pg_colour.proofs.Kept.{Kept, turned}

pub voted_least : (round : ℕ) (cast : Option Vote) → round ≤ voted round cast
voted_least round None = omega arith
voted_least round (Some v) = omega arith

pub refreshes_yes : (to : ℕ) (own : Cells) (p : PendingRefresh) (list : List PendingRefresh) → p.holder.rank.0 ≡ to
    → refreshes_to to own (p ∷ list) ≡ refresh_of own p ∷ refreshes_to to own list
refreshes_yes to own p list same =
    ap (map (refresh_of own)) (cond-true (p.holder.rank.0 == to) (p ∷ filter (λ q. q.holder.rank.0 == to) list) (filter (λ q. q.holder.rank.0 == to) list) (eq-eqb p.holder.rank.0 to same))

pub refreshes_no : (to : ℕ) (own : Cells) (p : PendingRefresh) (list : List PendingRefresh) → p.holder.rank.0 ≢ to
    → refreshes_to to own (p ∷ list) ≡ refreshes_to to own list
refreshes_no to own p list apart =
    ap (map (refresh_of own)) (cond-false (p.holder.rank.0 == to) (p ∷ filter (λ q. q.holder.rank.0 == to) list) (filter (λ q. q.holder.rank.0 == to) list) (ne_eqb p.holder.rank.0 to apart))

values_yes : (slot at value : ℕ) (messages : List CellBody) → at ≡ slot → values_for slot (Refresh at value ∷ messages) ≡ value ∷ values_for slot messages
values_yes slot at value messages same = cond-true (at == slot) (value ∷ values_for slot messages) (values_for slot messages) (eq-eqb at slot same)

values_no : (slot at value : ℕ) (messages : List CellBody) → at ≢ slot → values_for slot (Refresh at value ∷ messages) ≡ values_for slot messages
values_no slot at value messages apart = cond-false (at == slot) (value ∷ values_for slot messages) (values_for slot messages) (ne_eqb at slot apart)

-- The refresh is one of this slot of this rank.
abbrev pub IsOfSlot : ℕ → ℕ → PendingRefresh → Type 0
IsOfSlot to slot p = (p.holder.rank.0 ≡ to) × (p.holder.slot ≡ slot)

head_else : (own : Cells) (to slot : ℕ) (p : PendingRefresh) (list : List PendingRefresh) → (IsOfSlot to slot p → ⊥)
    → values_for slot (refreshes_to to own (p ∷ list)) ≡ values_for slot (refreshes_to to own list)
head_else own to slot p list not_it = ⊎_elim
    (λ here. ap (values_for slot) (refreshes_yes to own p list here) ∙ values_no slot p.holder.slot (own p.place) (refreshes_to to own list) (λ e. not_it (here, e)))
    (λ else. ap (values_for slot) (refreshes_no to own p list else))
    (cases_eq p.holder.rank.0 to)

values_none : (own : Cells) (to slot : ℕ) (list : List PendingRefresh) → ((k : ℕ) (p : PendingRefresh) → slice_get list k ≡ Some p → IsOfSlot to slot p → ⊥)
    → values_for slot (refreshes_to to own list) ≡ []
values_none own to slot [] none = refl
values_none own to slot (p ∷ list) none =
    head_else own to slot p list (none 0 p refl) ∙ values_none own to slot list (λ k q at is. none (suc k) q at is)

values_once : (own : Cells) (to slot : ℕ) (list : List PendingRefresh) (e : ℕ) (pending : PendingRefresh) → slice_get list e ≡ Some pending → IsOfSlot to slot pending
    → ((k : ℕ) (p : PendingRefresh) → slice_get list k ≡ Some p → IsOfSlot to slot p → k ≡ e) → values_for slot (refreshes_to to own list) ≡ own pending.place ∷ []
values_once own to slot [] e pending at is once = absurd (none-some pending at)
values_once own to slot (p ∷ list) zero pending at is once =
    let same : p ≡ pending = same_Some p pending at in
    let first : IsOfSlot to slot p = subst (IsOfSlot to slot) (sym same) is in
    ap (values_for slot) (refreshes_yes to own p list first.0)
    ∙ (values_yes slot p.holder.slot (own p.place) (refreshes_to to own list) first.1
    ∙ (ap (λ (values : List ℕ). own p.place ∷ values) (values_none own to slot list (λ k q at' is'. omega (arith, once (suc k) q at' is')))
    ∙ ap (λ (q : PendingRefresh). own q.place ∷ []) same))
values_once own to slot (p ∷ list) (suc e) pending at is once =
    head_else own to slot p list (λ is'. omega (arith, once 0 p refl is'))
    ∙ values_once own to slot list e pending at is (λ k q at' is'. omega (arith, once (suc k) q at' is'))

module _ (s : Sharing) (g : Graph) (parts : List Portion) (states : ℕ → State) (sent : PairLists CellBody)
    (part : ℕ → Portion) (history : ℕ → History) (handled promised : ℕ → List (List (Body CellBody))) (k : Kept s g parts states sent part history handled promised) where
  m : AreRefreshesMirrored parts
  m = mirrored parts (s, g, k.sharing, k.divided)

  -- A refresh for a holder of rank r's vertex is one from the home of a ghost.
  came_from : (q r : ℕ) → q < s.ranks → r < s.ranks → (x : CellBody) → IsRefreshTo (part r) q x → IsRefreshFrom (part q) r x
  came_from q r h l x is =
      let entry = index_of (refreshes_of (part r)) is.pending is.among in
      let to = m.held r entry.0 (part r) is.pending (k.there r l) entry.1 in
      let holder : to.holder ≡ part q = same_Some to.holder (part q) (sym to.there ∙ (ap (slice_get parts) is.rank ∙ k.there q h)) in
      record {
        slot = is.pending.holder.slot;
        value = is.value;
        ghost_there = to.ghost_there;
        there = subst (λ (p : Portion). slice_get p.ghosts is.pending.holder.slot ≡ Some to.ghost_there) holder to.held;
        home = to.home;
        is = is.is;
      }

  pub sound : (q : ℕ) → q < s.ranks → AreSound (part q) (handled q)
  sound q h = record {
    even = λ from j other.
        let o = k.back q from h other in
        let t = turned s.ranks q from h o in
        ap (items_of_round (2 * j)) (k.taken from q o.0 t) ∙ (k.refreshes from o.0).even q j (k.other from q o.0 t);
    odd = λ from j other.
        let o = k.back q from h other in
        let t = turned s.ranks q from h o in
        subst (λ (list : List (Body CellBody)). All (IsRefreshFrom (part q) from) (items_of_round (2 * j + 1) list)) (sym (k.taken from q o.0 t))
        (All-weaker (IsRefreshTo (part from) q) (IsRefreshFrom (part q) from) (came_from q from h o.0) (items_of_round (2 * j + 1) (list_at (promised from) q))
        ((k.refreshes from o.0).odd q j (k.other from q o.0 t)));
  }

  pub colours : (r : ℕ) → r < s.ranks → KeepsPasses (part r) (handled r) (promised r) (history r) (states r)
  colours r h = k.coloured r h (sound r h)

  -- The number of the last pass.
  pub last : ℕ
  last = (states 0).round / 2

  pub round_is : (r : ℕ) → r < s.ranks → (states r).round ≡ 2 * last
  unfolding last
  round_is r h =
      let e = (colours r h).ending.ended (k.ended r h) in
      let j : ℕ = e.pass in
      omega (arith, e.round_is, k.same_round r h)

  pub nothing_left : (r : ℕ) → r < s.ranks → (history r).list last ≡ []
  nothing_left r h =
      let e = (colours r h).ending.ended (k.ended r h) in
      let j : ℕ = e.pass in
      let same : j ≡ last = omega (arith, e.round_is, round_is r h) in
      ap (history r).list (sym same) ∙ e.nothing.own

  module _ (q slot : ℕ) (x : Ghost) (h : q < s.ranks) (held : slice_get (part q).ghosts slot ≡ Some x) where
    abbrev home : ℕ
    home = x.home.0

    pub home_below : home < s.ranks
    home_below =
        let from = m.kept q slot (part q) x (k.there q h) held in
        rank_below s g parts k.sharing k.graph k.vertices k.divided home from.home from.there

    pub home_other : IsOther q s.ranks home
    home_other = (home_below, m.mirrored.foreign q slot (part q) x (k.there q h) held)

    -- The entry of the refresh that goes to the slot.
    pub place_there : (v : ℕ) × (slice_get (part home).vertices x.place ≡ Some v)
    place_there =
        let from = m.kept q slot (part q) x (k.there q h) held in
        let same : from.home ≡ part home = same_Some from.home (part home) (sym from.there ∙ k.there home home_below) in
        (x.vertex.0, subst (λ (p : Portion). slice_get p.vertices x.place ≡ Some x.vertex.0) same from.vertex)

    abbrev pending : PendingRefresh
    pending = record { place = x.place; holder = record { rank = record { 0 = q }; slot = slot } }

    entry : (e : ℕ) × (slice_get (refreshes_of (part home)) e ≡ Some pending)
    entry =
        let from = m.kept q slot (part q) x (k.there q h) held in
        let same : from.home ≡ part home = same_Some from.home (part home) (sym from.there ∙ k.there home home_below) in
        (from.entry, subst (λ (p : Portion). slice_get (refreshes_of p) from.entry ≡ Some pending) same from.pending)

    pending_same : (p : PendingRefresh) → p.place ≡ x.place → IsOfSlot q slot p → p ≡ pending
    pending_same p place is = λ i. record { place = place i; holder = record { rank = record { 0 = is.0 i }; slot = is.1 i } }

    one_entry : (l : ℕ) (p : PendingRefresh) → slice_get (refreshes_of (part home)) l ≡ Some p → IsOfSlot q slot p → l ≡ entry.0
    one_entry l p at is =
        let to = m.held home l (part home) p (k.there home home_below) at in
        let holder : to.holder ≡ part q = same_Some to.holder (part q) (sym to.there ∙ (ap (slice_get parts) is.0 ∙ k.there q h)) in
        let remote : slice_get (part q).ghosts slot ≡ Some to.ghost_there =
        subst (λ (n : ℕ). slice_get (part q).ghosts n ≡ Some to.ghost_there) is.1 (subst (λ (y : Portion). slice_get y.ghosts p.holder.slot ≡ Some to.ghost_there) holder to.held) in
        let same : to.ghost_there ≡ x = same_Some to.ghost_there x (sym remote ∙ held) in
        let place : p.place ≡ x.place = sym to.place ∙ ap (λ (y : Ghost). y.place) same in
        m.one_pending home l entry.0 (part home) pending (k.there home home_below) (at ∙ ap (λ (y : PendingRefresh). Some y) (pending_same p place is)) entry.1

    -- In each refreshing round the ghost got its owner's cell, once.
    pub values_sent : (j : ℕ) → j < last → values_for slot (items_of_round (2 * j + 1) (list_at (promised home) q)) ≡ (history home).own j x.place ∷ []
    values_sent j less =
        let t = turned s.ranks q home h home_other in
        let all = (colours home home_below).sends.all q j (k.other home q home_below t) (omega (arith, less, round_is home home_below, voted_least (states home).round (states home).cast)) in
        ap (values_for slot) all ∙ values_once ((history home).own j) q slot (refreshes_of (part home)) entry.0 pending entry.1 (refl, refl) one_entry

    home_is : home_of (part q) slot ≡ home
    home_is = ap (λ (y : Ghost). y.home.0) (get_or_from_slice_get (part q).ghosts slot x (record { vertex = record { 0 = 0 }; home = record { 0 = 0 }; place = 0 }) held)

    seen_next : (n i : ℕ) → n ≡ suc i → seen_after (part q) (handled q) n slot
        ≡ last_or (seen_after (part q) (handled q) i slot) (values_for slot (items_of_round i (list_at (handled q) (home_of (part q) slot))))
    seen_next n i same = ap (λ (l : ℕ). seen_after (part q) (handled q) l slot) same

    pub seen_is : (j : ℕ) → j < last → seen_after (part q) (handled q) (2 * j + 2) slot ≡ (history home).own j x.place
    seen_is j less =
        let t = turned s.ranks q home h home_other in
        seen_next (2 * j + 2) (2 * j + 1) (omega arith)
        ∙ (ap (λ (r : ℕ). last_or (seen_after (part q) (handled q) (2 * j + 1) slot) (values_for slot (items_of_round (2 * j + 1) (list_at (handled q) r)))) home_is
        ∙ (ap (λ (list : List (Body CellBody)). last_or (seen_after (part q) (handled q) (2 * j + 1) slot) (values_for slot (items_of_round (2 * j + 1) list))) (k.taken home q home_below t)
        ∙ ap (last_or (seen_after (part q) (handled q) (2 * j + 1) slot)) (values_sent j less)))

    -- Once all have ended nothing more was sent.
    pub seen_end : seen_after (part q) (handled q) (2 * last + 2) slot ≡ seen_after (part q) (handled q) (2 * last) slot
    seen_end =
        let t = turned s.ranks q home h home_other in
        let none : items_of_round (2 * last) (list_at (handled q) (home_of (part q) slot)) ≡ [] =
        ap (λ (r : ℕ). items_of_round (2 * last) (list_at (handled q) r)) home_is ∙ (sound q h).even home last (k.other q home h home_other) in
        let none_more : items_of_round (2 * last + 1) (list_at (handled q) (home_of (part q) slot)) ≡ [] =
        ap (λ (r : ℕ). items_of_round (2 * last + 1) (list_at (handled q) r)) home_is
        ∙ (ap (items_of_round (2 * last + 1)) (k.taken home q home_below t)
        ∙ (k.counted home home_below).later q (2 * last + 1) (k.other home q home_below t) (omega (arith, round_is home home_below))) in
        seen_next (2 * last + 2) (2 * last + 1) (omega arith)
        ∙ (ap (λ (items : List CellBody). last_or (seen_after (part q) (handled q) (2 * last + 1) slot) (values_for slot items)) none_more
        ∙ (seen_next (2 * last + 1) (2 * last) (omega arith)
        ∙ ap (λ (items : List CellBody). last_or (seen_after (part q) (handled q) (2 * last) slot) (values_for slot items)) none))
