-- With backward and forward, after a synchronize each own cell has joined all that was put to its vertex on any rank.
use Rattle.std.proofs.Common.{◌≡◌, ◌≢◌, ◌⊎◌, inl, inr, ℕ, zero, suc, ◌+◌, ◌<◌, ◌≤◌, List, [], ◌∷◌, Bool, true, false, eqb, length, map, fold, option_map, Some, refl, sym, ap, ◌∙◌, subst, slice_get, arith, ne_eqb}
use Rattle.std.proofs.lemmas.Bool.{cases_eq, cases_lt}
use Rattle.std.proofs.lemmas.List.{get_or_past}
use Rattle.std.proofs.lemmas.Option.{slice_get_within, same_Some, slice_get-map}
use Rattle.pg_adj.specs.Portions.{Portion}
use Rattle.pg_adj.specs.declared.arcs.Ghost.{Ghost}
use Rattle.pg_cells.specs.declared.bodies.CellBody.{CellBody}
use Rattle.pg_cells.specs.declared.flags.Flags.{Flags}
use Rattle.pg_cells.specs.declared.refreshes.PendingRefresh.{PendingRefresh}
use Rattle.pg_cells.specs.Consistency.{contradicts}
use Rattle.pg_cells.specs.States.{CellState, IsOwn, new_cells, refreshes_of}
use Rattle.pg_cells.specs.Steps.{Event, Sends}
use Rattle.pg_cells.specs.Steps.Event.{put, handled, sent, closed, round_ended}
use Rattle.pg_cells.specs.Runs.{Run, rounds, handled_from, sent_to, puts_to}
use Rattle.pg_cells.specs.RefreshesMirrored.{AreRefreshesMirrored}
use Rattle.pg_cells.specs.Freshness.{HaveSynchronized, HaveJoinedAll, HasJoinedAll, events_at, values_of}
use Rattle.pg_cells.proofs.ForwardGroups.{AreGroups, groups_of_one, opened}
use Rattle.pg_cells.proofs.ForwardRounds.{AreWhole, are_whole, handled_is_sent}
use Rattle.pg_cells.proofs.ForwardPhases.{framed, synchronized}
use Rattle.pg_cells.proofs.ForwardSender.{IsSeen, sent_in_groups, values_at, unchosen}
use Rattle.pg_cells.proofs.ForwardOwner.{IsOwner, arrivals, values_handled, values_put, joins_arrivals}

no_flush : (forward backward flush reset clear : Bool) → contradicts forward backward flush reset clear ≡ false → forward ≡ true → flush ≡ false
no_flush true backward true reset clear h forward = absurd (cc h)
no_flush true backward false reset clear h forward = refl
no_flush false backward flush reset clear h forward = absurd (cc forward)

entry_at : {X : Type 0} (xs : List X) (k : ℕ) → k < length xs → (x : X) × (slice_get xs k ≡ Some x)
entry_at [] k low = absurd (omega arith)
entry_at (x ∷ xs) zero low = (x, refl)
entry_at (x ∷ xs) (suc k) low = entry_at xs k (omega (arith, low))

entry_below : {X Y : Type 0} (xs : List X) (ys : List Y) (k : ℕ) (x : X) → length xs ≡ length ys → slice_get xs k ≡ Some x → k < length ys
entry_below xs ys k x same there = subst (λ n. k < n) same (slice_get_within xs k x there)

-- where a vertex stands among ghosts
abbrev FoundGhost : List Ghost → ℕ → ℕ → Type 0
FoundGhost ghosts v k = (g : Ghost) × (slice_get ghosts k ≡ Some g) × (g.vertex.0 ≡ v)

abbrev NoGhost : List Ghost → ℕ → Type 0
NoGhost ghosts v = (l : ℕ) (g : Ghost) → slice_get ghosts l ≡ Some g → g.vertex.0 ≢ v

find_ghost : (ghosts : List Ghost) (v : ℕ) → (k : ℕ) × (FoundGhost ghosts v k ⊎ ((length ghosts ≤ k) × NoGhost ghosts v))
find_ghost [] v = (0, inr (omega arith, λ l g there. absurd (cc there)))
find_ghost (h ∷ ghosts) v = elim (cases_eq h.vertex.0 v) [
  | inl same ↦ (0, inl (h, refl, same))
  | inr apart ↦ next (find_ghost ghosts v) apart
]
  where
    not_first : NoGhost ghosts v → h.vertex.0 ≢ v → NoGhost (h ∷ ghosts) v
    not_first none apart zero g there = λ e. apart (ap (λ x. x.vertex.0) (same_Some h g there) ∙ e)
    not_first none apart (suc l) g there = none l g there

    next : ((k : ℕ) × (FoundGhost ghosts v k ⊎ ((length ghosts ≤ k) × NoGhost ghosts v))) → h.vertex.0 ≢ v
        → (k : ℕ) × (FoundGhost (h ∷ ghosts) v k ⊎ ((length (h ∷ ghosts) ≤ k) × NoGhost (h ∷ ghosts) v))
    next found apart = (
      suc found.0,
      elim found.1 [
        | inl there ↦ inl there
        | inr none ↦ inr (omega (arith, none.0), not_first none.1 apart)
      ],
    )

module _ (parts : List Portion) (mirrored : AreRefreshesMirrored parts) (r : ℕ) (p : Portion) (v i : ℕ) (at_rank : slice_get parts r ≡ Some p) (at_place : IsOwn p v i) where
  no_own_ghost : (slot : ℕ) (g : Ghost) → slice_get p.ghosts slot ≡ Some g → g.vertex.0 ≡ v → ⊥
  no_own_ghost slot g there same =
      let kept = mirrored.kept r slot p g at_rank there in
      mirrored.mirrored.foreign r slot p g at_rank there (sym (mirrored.mirrored.one_owner r g.home.0 i g.place v p kept.home at_rank kept.there at_place (kept.vertex ∙ ap Some same)))

  pub is_owner : IsOwner p v i
  is_owner = record { only = λ place own. mirrored.mirrored.one_place r place i v p at_rank own at_place; own = at_place; not_ghost = no_own_ghost }

  module _ (s : ℕ) (q : Portion) (at_sender : slice_get parts s ≡ Some q) (apart : s ≢ r) where
    not_own : (place : ℕ) → IsOwn q v place → ⊥
    not_own place own = apart (sym (mirrored.mirrored.one_owner r s i place v p q at_rank at_sender at_place own))

    home_of : (l : ℕ) (g : Ghost) → slice_get q.ghosts l ≡ Some g → g.vertex.0 ≡ v → g.home.0 ≡ r
    home_of l g there same =
        let kept = mirrored.kept s l q g at_sender there in
        sym (mirrored.mirrored.one_owner r g.home.0 i g.place v p kept.home at_rank kept.there at_place (kept.vertex ∙ ap Some same))

    -- the vertex of a ghost whose home is the rank stands at the ghost's place of the portion
    at_home : (l : ℕ) (g : Ghost) → slice_get q.ghosts l ≡ Some g → g.home.0 ≡ r → slice_get p.vertices g.place ≡ Some g.vertex.0
    at_home l g there home =
        let kept = mirrored.kept s l q g at_sender there in
        let same : p ≡ kept.home = same_Some p kept.home (sym at_rank ∙ ap (slice_get parts) (sym home) ∙ kept.there) in
        ap (λ h. slice_get h.vertices g.place) same ∙ kept.vertex

    place_of : (l : ℕ) (g : Ghost) → slice_get q.ghosts l ≡ Some g → g.vertex.0 ≡ v → g.place ≡ i
    place_of l g there same = mirrored.mirrored.one_place r g.place i v p at_rank (at_home l g there (home_of l g there same) ∙ ap Some same) at_place

    vertex_of : (l : ℕ) (g : Ghost) → slice_get q.ghosts l ≡ Some g → g.home.0 ≡ r → g.place ≡ i → g.vertex.0 ≡ v
    vertex_of l g there home place = same_Some g.vertex.0 v (sym (at_home l g there home) ∙ ap (slice_get p.vertices) place ∙ at_place)

    seen_at : (k : ℕ) → ((l : ℕ) (g : Ghost) → slice_get q.ghosts l ≡ Some g → g.vertex.0 ≡ v → l ≡ k) → ((g : Ghost) → slice_get q.ghosts k ≡ Some g → g.vertex.0 ≡ v) → IsSeen q v r i k
    seen_at k slot vertex = record {
      not_own = not_own;
      slot = slot;
      vertex = vertex;
      home = λ g there. home_of k g there (vertex g there);
      place = λ g there. place_of k g there (vertex g there);
      only = λ l g there home place. slot l g there (vertex_of l g there home place);
    }

    pub seen : (k : ℕ) × IsSeen q v r i k
    seen =
        let found = find_ghost q.ghosts v in (
          found.0,
          elim found.1 [
            | inl here ↦ seen_at found.0
                (λ l g there same. mirrored.mirrored.one_slot s l found.0 q g here.0 at_sender there here.1 (same ∙ sym here.2))
                (λ g there. ap (λ h. h.vertex.0) (same_Some g here.0 (sym there ∙ here.1)) ∙ here.2)
            | inr none ↦ seen_at found.0
                (λ l g there same. absurd (none.1 l g there same))
                (λ g there. absurd (omega (arith, slice_get_within q.ghosts found.0 g there, none.0)))
          ],
        )

module _ (join : ℕ → ℕ → ℕ) (start : ℕ → ℕ) (parts : List Portion) (mirrored : AreRefreshesMirrored parts) where
  -- a rank sends to other ranks alone
  sends_abroad : (r : ℕ) (p : Portion) (s : CellState) (to : ℕ) (body : CellBody) (t : CellState) → slice_get parts r ≡ Some p → s.part ≡ p → Sends s to body t → to ≢ r
  sends_abroad r p s to body t there part h = elim h [
    | inl paid ↦ λ e. mirrored.mirrored.foreign r paid.slot p paid.held there (ap (λ q. slice_get q.ghosts paid.slot) (sym part) ∙ paid.there) (sym paid.home ∙ e)
    | inr (inl note) ↦ λ e. mirrored.mirrored.foreign r note.slot p note.held there (ap (λ q. slice_get q.ghosts note.slot) (sym part) ∙ note.there) (sym note.home ∙ e)
    | inr (inr pending) ↦ λ e. not_held pending.entry pending.pending (ap (λ q. slice_get (refreshes_of q) pending.entry) (sym part) ∙ pending.there) (sym pending.rank ∙ e)
  ]
    where
      not_held : (entry : ℕ) (pending : PendingRefresh) → slice_get (refreshes_of p) entry ≡ Some pending → pending.holder.rank.0 ≢ r
      not_held entry pending at e =
          let held = mirrored.held r entry p pending there at in
          mirrored.mirrored.foreign r pending.holder.slot held.holder held.ghost_there (ap (slice_get parts) (sym e) ∙ held.there) held.held held.home

  none_to_itself : (r : ℕ) (p : Portion) (events : List Event) (s t : CellState) → slice_get parts r ≡ Some p → s.part ≡ p → Run join start s events t → sent_to r events ≡ []
  none_to_itself r p [] s t there part run = refl
  none_to_itself r p (put v x ∷ events) s t there part run = none_to_itself r p events run.0 t there (ap (λ f. f.0) (framed join start s (put v x) run.0 run.1) ∙ part) run.2
  none_to_itself r p (handled from body ∷ events) s t there part run = none_to_itself r p events run.0 t there (ap (λ f. f.0) (framed join start s (handled from body) run.0 run.1) ∙ part) run.2
  none_to_itself r p (sent to body ∷ events) s t there part run =
      unchosen (eqb to r) _ _ (ne_eqb to r (sends_abroad r p s to body run.0 there part run.1))
      ∙ none_to_itself r p events run.0 t there (ap (λ f. f.0) (framed join start s (sent to body) run.0 run.1) ∙ part) run.2
  none_to_itself r p (closed ∷ events) s t there part run = none_to_itself r p events run.0 t there (ap (λ f. f.0) (framed join start s closed run.0 run.1) ∙ part) run.2
  none_to_itself r p (round_ended ∷ events) s t there part run = none_to_itself r p events run.0 t there (ap (λ f. f.0) (framed join start s round_ended run.0 run.1) ∙ part) run.2

  part_stays : (events : List Event) (s t : CellState) → Run join start s events t → t.part ≡ s.part
  part_stays [] s t run = ap (λ c. c.part) (sym run)
  part_stays (e ∷ events) s t run = part_stays events run.0 t run.2 ∙ ap (λ f. f.0) (framed join start s e run.0 run.1)

  module _ (flags : Flags) (runs : List (List Event)) (cells : List CellState) (all : HaveSynchronized join start flags parts runs cells) where
    no_events : (r : ℕ) → length parts ≤ r → events_at runs r ≡ []
    no_events r high = get_or_past runs r [] (omega (arith, all.each_run, high))

    whole_run : (r : ℕ) → AreWhole (events_at runs r) × (rounds (events_at runs r) ≤ all.closing + 2)
    whole_run r = elim (cases_lt r (length parts)) [
      | inl low ↦ ((are_whole (events_at runs r) (all.at_end r low)).1, omega (arith, all.all_rounds r low))
      | inr high ↦ subst (λ l. AreWhole l × (rounds l ≤ all.closing + 2)) (sym (no_events r high)) (tt, omega arith)
    ]

    -- what a rank handled from another one is what that one sent to it
    handled_all : (r from : ℕ) → r < length parts → handled_from from (events_at runs r) ≡ sent_to r (events_at runs from)
    handled_all r from low =
        handled_is_sent (all.closing + 2) r from (events_at runs r) (events_at runs from) (whole_run r).0 (whole_run from).0 (whole_run r).1 (whole_run from).1 (λ k. all.delivered r from k low)

    module _ (backward : flags.backward ≡ true) (forward : flags.forward ≡ true) (r : ℕ) (p : Portion) (v i : ℕ) (there : slice_get parts r ≡ Some p) (own : IsOwn p v i) where
      low : r < length parts
      low = slice_get_within parts r p there

      flush : flags.flush ≡ false
      flush = no_flush flags.forward flags.backward flags.flush flags.reset flags.clear flags.permitted forward

      groups_of_itself : (t : CellState) → slice_get cells r ≡ Some t → AreGroups join (values_of r (arrivals r v i (events_at runs r))) (puts_to v (events_at runs r))
      groups_of_itself t at =
          let none = handled_all r r low ∙ none_to_itself r p (events_at runs r) (new_cells start p flags) t there refl (all.ran r p t there at) in
          subst (λ l. AreGroups join l (puts_to v (events_at runs r))) (sym (values_put r v i (events_at runs r) none)) (groups_of_one join (puts_to v (events_at runs r)))

      sent_groups : (s : ℕ) → s ≢ r → s < length parts → AreGroups join (values_at i (sent_to r (events_at runs s))) (puts_to v (events_at runs s))
      sent_groups s apart within =
          let q = entry_at parts s within in
          let t = entry_at cells s (omega (arith, all.each_cells, within)) in
          let run = all.ran s q.0 t.0 q.1 t.1 in
          let slot = seen parts mirrored r p v i there own s q.0 q.1 apart in
          sent_in_groups join start q.0 v r i slot.0 slot.1 (events_at runs s) flags t.0 forward flush run
          (synchronized join start all.closing (events_at runs s) (new_cells start q.0 flags) t.0 backward (whole_run s).0 (all.all_rounds s within) (all.all_close s within) run)

      no_groups : (s : ℕ) → length parts ≤ s → AreGroups join (values_at i (sent_to r (events_at runs s))) (puts_to v (events_at runs s))
      no_groups s high = subst (λ l. AreGroups join (values_at i (sent_to r l)) (puts_to v l)) (sym (no_events s high)) refl

      groups_of_other : (s : ℕ) → s ≢ r → AreGroups join (values_of s (arrivals r v i (events_at runs r))) (puts_to v (events_at runs s))
      groups_of_other s apart =
          subst (λ l. AreGroups join l (puts_to v (events_at runs s))) (sym (values_handled r v i s (events_at runs r) apart ∙ ap (values_at i) (handled_all r s low)))
          (elim (cases_lt s (length parts)) [ inl within ↦ sent_groups s apart within | inr high ↦ no_groups s high ])

      all_groups : (t : CellState) → slice_get cells r ≡ Some t → (s : ℕ) → AreGroups join (values_of s (arrivals r v i (events_at runs r))) (puts_to v (events_at runs s))
      all_groups t at s = elim (cases_eq s r) [
        | inl same ↦ subst (λ k. AreGroups join (values_of k (arrivals r v i (events_at runs r))) (puts_to v (events_at runs k))) (sym same) (groups_of_itself t at)
        | inr apart ↦ groups_of_other s apart
      ]

      joined_all : (associative : (a b c : ℕ) → join (join a b) c ≡ join a (join b c)) (t : CellState) → slice_get cells r ≡ Some t → (x : ℕ) × (slice_get t.own i ≡ Some x) × HasJoinedAll join start runs v x
      joined_all associative t at =
          let came = arrivals r v i (events_at runs r) in
          let begins : slice_get (map start p.vertices) i ≡ Some (start v) = slice_get-map start p.vertices i ∙ ap (option_map start) own in
          let puts = opened join associative came (λ s. puts_to v (events_at runs s)) (all_groups t at) in (
            fold join (start v) (map (λ a. a.value) came),
            joins_arrivals join start p r v i (is_owner parts mirrored r p v i there own) (events_at runs r) (new_cells start p flags) t (start v) refl begins (all.ran r p t there at),
            (puts.0, sym (puts.1.0 (start v)), puts.1.1),
          )

    pub forward_joins : ((a b c : ℕ) → join (join a b) c ≡ join a (join b c)) → flags.backward ≡ true → flags.forward ≡ true → HaveJoinedAll join start runs cells
    forward_joins associative backward forward r place v s at own =
        let p = entry_at parts r (entry_below cells parts r s all.each_cells at) in
        let stays = part_stays (events_at runs r) (new_cells start p.0 flags) s (all.ran r p.0 s p.1 at) in
        joined_all backward forward r p.0 v place p.1 (ap (λ q. slice_get q.vertices place) (sym stays) ∙ own) associative s at
