-- By which steps a program keeps its promise of a synchronized map.
use Rattle.std.proofs.Common.{◌≡◌, ◌≢◌, inl, inr, ℕ, zero, suc, ◌+◌, ◌<◌, Bool, true, false, not, max, List, [], ◌∷◌, ◌++◌, length, replicate, append-nil, refl, sym, ap, ◌∙◌, subst, arith}
use Rattle.std.proofs.lemmas.Bool.{cond-true}
use Rattle.std.specs.Prelude.{Option, Some, None, is_some, slice_get}
use Rattle.std.proofs.lemmas.List.{length-replicate}
use Rattle.pg_group.specs.declared.messages.Body.{Body}
use Rattle.pg_group.specs.declared.messages.Body.TheVariants.{Item, Mark}
use Rattle.pg_group.specs.declared.messages.Vote.{Vote}
use Rattle.pg_group.specs.Ranked.{IsOther, append_at, list_at}
use Rattle.pg_group.specs.Rolls.{voted}
use Rattle.pg_group.specs.Rounds.{marks, items_of_round}
use Rattle.pg_group.specs.Supersteps.{append_marks, append_others, nothing}
use Rattle.pg_group.proofs.Counting.{some_at}
use Rattle.pg_group.proofs.RollLemmas.{length-append_at, length-append_marks, length-append_others}
use Rattle.pg_adj.specs.Portions.{Portion}
use Rattle.pg_cells.specs.declared.bodies.CellBody.{CellBody}
use Rattle.pg_cells.specs.declared.flags.Flags.{Flags}
use Rattle.pg_cells.specs.declared.phases.Phase.{Phase}
use Rattle.pg_cells.specs.declared.phases.Phase.TheVariants.{Filling, Closing, Refreshing}
use Rattle.pg_cells.specs.Freshness.{BackwardRefreshes, ForwardJoins}
use Rattle.pg_cells.specs.Runs.{Run, rounds, ends_a_round, events_of, handled_from, sent_to, puts_to}
use Rattle.pg_cells.specs.Shown.{state_of}
use Rattle.pg_cells.specs.States.{CellState, NothingLeft}
use Rattle.pg_cells.specs.Steps.{Event, CellsStep, Sends, after_body, after_round, ends_with, synchronizes}
use Rattle.pg_cells.specs.Steps.Event.{handled, sent, round_ended}
use Rattle.pg_uses.specs.declared.neighbours.NeighbourDegrees.{NeighbourDegrees}
use Rattle.pg_uses.specs.DegreeMaps.{is_filling, no_degree, round_in, rounds_before}
use Rattle.pg_uses.specs.Synchronizing.{IsNewMap, KeepsMap}
use Rattle.pg_uses.proofs.Events.{end_in_none, handled_append, handled_none, handled_one, puts_append, rounds_append, run_push, sent_append, sent_none, sent_one, ends_appended}
use Rattle.pg_uses.proofs.RoundItems.{item_at, items_marks, items_others, late_item, marks_at_item, marks_marks, marks_others, unseen}

none_listed : (ranks rank : ℕ) → list_at {X = Body CellBody} (replicate ranks []) rank ≡ []
none_listed zero rank = refl
none_listed (suc ranks) zero = refl
none_listed (suc ranks) (suc rank) = none_listed ranks rank

not_both : {X : Type 0} (b : Bool) → b ≡ false → b ≡ true → X
not_both b no_ yes_ = absurd (cc (no_, yes_))

-- A new program has handled and sent nothing.
pub new_kept : (p : NeighbourDegrees) → IsNewMap p → KeepsMap p (nothing p.part.ranks) (nothing p.part.ranks) p
new_kept p new = record {
  same_part = refl;
  from_each = length-replicate p.part.ranks [];
  to_each = length-replicate p.part.ranks [];
  events = [];
  ran = refl;
  no_puts = λ v. refl;
  rounds_are = sym (ap rounds_before new.closing);
  ends = λ ended. not_both p.ended new.ended ended;
  handles = λ from k low. sym (ap (items_of_round k) (none_listed p.part.ranks from));
  sends = λ to k. sym (ap (items_of_round k) (none_listed p.part.ranks to));
  marks_heard = λ from other. ap marks (none_listed p.part.ranks from);
  marks_told = λ to other. ap marks (none_listed p.part.ranks to) ∙ sym (ap (λ c. voted (round_in (state_of p.cells).phase) c) new.cast ∙ ap round_in new.closing);
  refreshes = λ ended. not_both p.ended new.ended ended;
  joins = λ ended. not_both p.ended new.ended ended;
}

-- What a call leaves as it is.
pub record Stays (p q : NeighbourDegrees) : Type 0 where
  pub part : q.part ≡ p.part
  pub phase : (state_of q.cells).phase ≡ (state_of p.cells).phase
  pub cast : q.cast ≡ p.cast
  pub ended : q.ended ≡ p.ended

module _ (start p q : NeighbourDegrees) (heard told : List (List (Body CellBody))) (stays : Stays p q) (k : KeepsMap start heard told p) where
  also_other : (rank : ℕ) → IsOther q.part.rank q.part.ranks rank → IsOther p.part.rank p.part.ranks rank
  also_other rank other = subst (λ (part : Portion). IsOther part.rank part.ranks rank) stays.part other

  was_ended : q.ended ≡ true → p.ended ≡ true
  was_ended ended = sym stays.ended ∙ ended

  same_told : (to : ℕ) → IsOther q.part.rank q.part.ranks to → marks (list_at told to) ≡ voted (round_in (state_of q.cells).phase) q.cast
  same_told to other =
      k.marks_told to (also_other to other)
      ∙ (ap (λ c. voted (round_in (state_of p.cells).phase) c) (sym stays.cast) ∙ ap (λ ph. voted (round_in ph) q.cast) (sym stays.phase))

  -- Nothing was done.
  pub rests_kept : q.cells ≡ p.cells → KeepsMap start heard told q
  rests_kept same = record {
    same_part = stays.part ∙ k.same_part;
    from_each = k.from_each ∙ sym (ap (λ (part : Portion). part.ranks) stays.part);
    to_each = k.to_each ∙ sym (ap (λ (part : Portion). part.ranks) stays.part);
    events = k.events;
    ran = subst (λ c. Run max no_degree (state_of start.cells) k.events (state_of c)) (sym same) k.ran;
    no_puts = k.no_puts;
    rounds_are = k.rounds_are ∙ sym (ap rounds_before stays.phase);
    ends = λ ended. k.ends (was_ended ended);
    handles = k.handles;
    sends = k.sends;
    marks_heard = λ from other. k.marks_heard from (also_other from other);
    marks_told = same_told;
    refreshes = λ ended. k.refreshes (was_ended ended);
    joins = λ ended. k.joins (was_ended ended);
  }

  -- The map took a body.
  pub handled_kept : (from : ℕ) (body : CellBody) → IsOther p.part.rank p.part.ranks from → p.ended ≡ false → state_of q.cells ≡ after_body max no_degree body (state_of p.cells)
      → KeepsMap start (append_at heard from (Item body)) told q
  handled_kept from body sender running step =
      let e = handled from body in
      let within : from < length heard = omega (arith, sender.0, k.from_each) in
      let as_many : rounds (k.events ++ e ∷ []) ≡ rounds k.events = omega (arith, rounds_append k.events (e ∷ [])) in
      record {
        same_part = stays.part ∙ k.same_part;
        from_each = length-append_at heard from (Item body) ∙ (k.from_each ∙ sym (ap (λ (part : Portion). part.ranks) stays.part));
        to_each = k.to_each ∙ sym (ap (λ (part : Portion). part.ranks) stays.part);
        events = k.events ++ e ∷ [];
        ran = run_push max no_degree k.events e (state_of start.cells) (state_of p.cells) (state_of q.cells) k.ran step;
        no_puts = λ v. puts_append v k.events (e ∷ []) ∙ (append-nil (puts_to v k.events) ∙ k.no_puts v);
        rounds_are = as_many ∙ (k.rounds_are ∙ sym (ap rounds_before stays.phase));
        ends = λ ended. not_both p.ended running (was_ended ended);
        handles = λ rank j low. item_at handled_from handled_append e refl from body (handled_one from body) (λ r other. handled_none r from body other) k.events heard within
            (k.marks_heard from sender) rank j (k.handles rank j low);
        sends = λ to j. unseen (sent_to to) (sent_append to) e refl k.events j refl ∙ k.sends to j;
        marks_heard = λ rank other. marks_at_item heard from rank body within ∙ (k.marks_heard rank (also_other rank other) ∙ sym as_many);
        marks_told = same_told;
        refreshes = λ ended. k.refreshes (was_ended ended);
        joins = λ ended. k.joins (was_ended ended);
      }

  -- A body came after the end.
  pub late_kept : (from : ℕ) (body : CellBody) → IsOther p.part.rank p.part.ranks from → is_filling (state_of p.cells).phase ≡ true → q.cells ≡ p.cells
      → KeepsMap start (append_at heard from (Item body)) told q
  late_kept from body sender over same =
      let r = rests_kept same in
      let within : from < length heard = omega (arith, sender.0, k.from_each) in
      let two : rounds_before (state_of p.cells).phase ≡ 2 = all_over (state_of p.cells).phase over in
      record {
        same_part = r.same_part;
        from_each = length-append_at heard from (Item body) ∙ r.from_each;
        to_each = r.to_each;
        events = r.events;
        ran = r.ran;
        no_puts = r.no_puts;
        rounds_are = r.rounds_are;
        ends = r.ends;
        handles = λ rank j low. r.handles rank j low ∙ sym (late_item heard from rank j body within (omega (arith, low, two, k.marks_heard from sender, k.rounds_are)));
        sends = r.sends;
        marks_heard = λ rank other. marks_at_item heard from rank body within ∙ r.marks_heard rank other;
        marks_told = r.marks_told;
        refreshes = r.refreshes;
        joins = r.joins;
      }
    where
      all_over : (ph : Phase) → is_filling ph ≡ true → rounds_before ph ≡ 2
      all_over Filling h = refl
      all_over Closing h = absurd (cc h)
      all_over Refreshing h = absurd (cc h)

  -- The map sent a body.
  pub sent_kept : (to : ℕ) (body : CellBody) (more : List (List (Body CellBody))) → IsOther p.part.rank p.part.ranks to → p.cast ≡ None → p.ended ≡ false
      → Sends (state_of p.cells) to body (state_of q.cells) → more ≡ append_at told to (Item body) → KeepsMap start heard more q
  sent_kept to body more receiver uncast running step grown =
      let e = sent to body in
      let within : to < length told = omega (arith, receiver.0, k.to_each) in
      let as_many : rounds (k.events ++ e ∷ []) ≡ rounds k.events = omega (arith, rounds_append k.events (e ∷ [])) in
      subst (λ l. KeepsMap start heard l q) (sym grown) (record {
        same_part = stays.part ∙ k.same_part;
        from_each = k.from_each ∙ sym (ap (λ (part : Portion). part.ranks) stays.part);
        to_each = length-append_at told to (Item body) ∙ (k.to_each ∙ sym (ap (λ (part : Portion). part.ranks) stays.part));
        events = k.events ++ e ∷ [];
        ran = run_push max no_degree k.events e (state_of start.cells) (state_of p.cells) (state_of q.cells) k.ran step;
        no_puts = λ v. puts_append v k.events (e ∷ []) ∙ (append-nil (puts_to v k.events) ∙ k.no_puts v);
        rounds_are = as_many ∙ (k.rounds_are ∙ sym (ap rounds_before stays.phase));
        ends = λ ended. not_both p.ended running (was_ended ended);
        handles = λ rank j low. unseen (handled_from rank) (handled_append rank) e refl k.events j refl ∙ k.handles rank j low;
        sends = λ rank j. item_at sent_to sent_append e refl to body (sent_one to body) (λ r other. sent_none r to body other) k.events told within
            (k.marks_told to receiver ∙ (ap (λ c. voted (round_in (state_of p.cells).phase) c) uncast ∙ (round_is (state_of p.cells).phase (sym p.over ∙ running) ∙ sym k.rounds_are))) rank j (k.sends rank j);
        marks_heard = λ rank other. k.marks_heard rank (also_other rank other) ∙ sym as_many;
        marks_told = λ rank other. marks_at_item told to rank body within ∙ same_told rank other;
        refreshes = λ ended. k.refreshes (was_ended ended);
        joins = λ ended. k.joins (was_ended ended);
      })
    where
      round_is : (ph : Phase) → is_filling ph ≡ false → round_in ph ≡ rounds_before ph
      round_is Filling h = absurd (cc h)
      round_is Closing h = refl
      round_is Refreshing h = refl

-- The vote was cast.
pub vote_kept : (start p q : NeighbourDegrees) (heard told : List (List (Body CellBody))) (vote : Vote) → q.part ≡ p.part → q.cells ≡ p.cells → q.cast ≡ Some vote → q.ended ≡ p.ended → p.cast ≡ None
    → KeepsMap start heard told p → KeepsMap start heard (append_others p.part.rank (Mark vote) told) q
vote_kept start p q heard told vote part same cast over uncast k =
    let other = λ (rank : ℕ) (o : IsOther q.part.rank q.part.ranks rank). subst (λ (pt : Portion). IsOther pt.rank pt.ranks rank) part o in
    let ranks = sym (ap (λ (pt : Portion). pt.ranks) part) in
    let round : round_in (state_of q.cells).phase ≡ round_in (state_of p.cells).phase = ap (λ c. round_in (state_of c).phase) same in
    let was : voted (round_in (state_of p.cells).phase) p.cast ≡ round_in (state_of p.cells).phase = ap (voted (round_in (state_of p.cells).phase)) uncast in
    let now : voted (round_in (state_of q.cells).phase) q.cast ≡ round_in (state_of q.cells).phase + 1 = ap (voted (round_in (state_of q.cells).phase)) cast in
    record {
      same_part = part ∙ k.same_part;
      from_each = k.from_each ∙ ranks;
      to_each = length-append_others p.part.rank (Mark vote) told ∙ (k.to_each ∙ ranks);
      events = k.events;
      ran = subst (λ c. Run max no_degree (state_of start.cells) k.events (state_of c)) (sym same) k.ran;
      no_puts = k.no_puts;
      rounds_are = k.rounds_are ∙ sym (ap (λ c. rounds_before (state_of c).phase) same);
      ends = λ ended. k.ends (sym over ∙ ended);
      handles = k.handles;
      sends = λ to j. k.sends to j ∙ sym (items_others p.part.rank j vote told to);
      marks_heard = λ from o. k.marks_heard from (other from o);
      marks_told = λ to o.
          let at = other to o in
          let within : to < length told = omega (arith, at.0, k.to_each) in
          omega (arith, marks_others p.part.rank vote told to within at.1, k.marks_told to at, was, now, round);
      refreshes = λ ended. k.refreshes (sym over ∙ ended);
      joins = λ ended. k.joins (sym over ∙ ended);
    }

-- A round has ended.
pub round_kept : (start p q : NeighbourDegrees) (heard told : List (List (Body CellBody))) (votes : List Vote) → q.part ≡ p.part → length votes ≡ p.part.ranks
    → CellsStep max no_degree (state_of p.cells) round_ended (state_of q.cells) → rounds_before (state_of q.cells).phase ≡ suc (rounds_before (state_of p.cells).phase)
    → voted (round_in (state_of q.cells).phase) q.cast ≡ voted (round_in (state_of p.cells).phase) p.cast → BackwardRefreshes max no_degree → ForwardJoins max no_degree
    → KeepsMap start heard told p → KeepsMap start (append_marks p.part.rank votes heard) told q
round_kept start p q heard told votes part voting step later same_votes refreshes joins k =
    let other = λ (rank : ℕ) (o : IsOther q.part.rank q.part.ranks rank). subst (λ (pt : Portion). IsOther pt.rank pt.ranks rank) part o in
    let ranks = sym (ap (λ (pt : Portion). pt.ranks) part) in
    let more : rounds (k.events ++ round_ended ∷ []) ≡ suc (rounds k.events) = omega (arith, rounds_append k.events (round_ended ∷ [])) in
    record {
      same_part = part ∙ k.same_part;
      from_each = length-append_marks p.part.rank votes heard ∙ (k.from_each ∙ ranks);
      to_each = k.to_each ∙ ranks;
      events = k.events ++ round_ended ∷ [];
      ran = run_push max no_degree k.events round_ended (state_of start.cells) (state_of p.cells) (state_of q.cells) k.ran step;
      no_puts = λ v. puts_append v k.events (round_ended ∷ []) ∙ (append-nil (puts_to v k.events) ∙ k.no_puts v);
      rounds_are = more ∙ (ap suc k.rounds_are ∙ sym later);
      ends = λ ended. ends_appended k.events (round_ended ∷ []) refl;
      handles = λ from j low. ap (handled_from from) (end_in_none j k.events) ∙ (k.handles from j low ∙ sym (items_marks p.part.rank j votes heard from));
      sends = λ to j. ap (sent_to to) (end_in_none j k.events) ∙ k.sends to j;
      marks_heard = λ from o.
          let at = other from o in
          marks_marks p.part.rank votes heard from (omega (arith, at.0, voting)) (omega (arith, at.0, k.from_each)) at.1 ∙ (ap suc (k.marks_heard from at) ∙ sym more);
      marks_told = λ to o. k.marks_told to (other to o) ∙ sym same_votes;
      refreshes = λ ended. refreshes;
      joins = λ ended. joins;
    }

-- ---- the phases

-- A round that doesn't end the synchronize is the one in which the map is closed; the next one refreshes.
turned : (ph : Phase) (s t : CellState) → t ≡ after_round max no_degree ph s → s.flags.backward ≡ true → is_filling ph ≡ false → ends_with s.flags ph ≡ false → (ph ≡ Closing) × (t.phase ≡ Refreshing)
turned Filling s t step backward busy goes_on = absurd (cc busy)
turned Closing s t step backward busy goes_on = (refl, ap (λ (c : CellState). c.phase) (step ∙ cond-true s.flags.backward _ _ backward))
turned Refreshing s t step backward busy goes_on = absurd (cc goes_on)

-- The one that ends it refreshes.
stopped : (ph : Phase) (s t : CellState) → t ≡ after_round max no_degree ph s → s.flags.backward ≡ true → is_filling ph ≡ false → ends_with s.flags ph ≡ true → (ph ≡ Refreshing) × (t.phase ≡ Filling)
stopped Filling s t step backward busy over = absurd (cc busy)
stopped Closing s t step backward busy over = not_both s.flags.backward (was_false s.flags.backward over) backward
  where
    was_false : (b : Bool) → not b ≡ true → b ≡ false
    was_false true h = absurd (cc h)
    was_false false h = refl
stopped Refreshing s t step backward busy over = (refl, ap (λ (c : CellState). c.phase) step)

-- The next round begins.
pub again_kept : (start p q : NeighbourDegrees) (heard told : List (List (Body CellBody))) (votes : List Vote) (vote : Vote) → q.part ≡ p.part → length votes ≡ p.part.ranks → p.ended ≡ false → p.cast ≡ Some vote → q.cast ≡ None
    → CellsStep max no_degree (state_of p.cells) round_ended (state_of q.cells) → synchronizes (state_of p.cells) ≡ false → BackwardRefreshes max no_degree → ForwardJoins max no_degree
    → KeepsMap start heard told p → KeepsMap start (append_marks p.part.rank votes heard) told q
again_kept start p q heard told votes vote part voting running cast uncast step goes_on refreshes joins kept =
    let ph = turned (state_of p.cells).phase (state_of p.cells) (state_of q.cells) step.1 p.backward (sym p.over ∙ running) goes_on in
    round_kept start p q heard told votes part voting step (ap rounds_before ph.1 ∙ sym (ap (λ x. suc (rounds_before x)) ph.0))
    (ap (voted (round_in (state_of q.cells).phase)) uncast ∙ (ap round_in ph.1 ∙ sym (ap (voted (round_in (state_of p.cells).phase)) cast ∙ ap (λ x. round_in x + 1) ph.0))) refreshes joins kept

-- The synchronize is over.
pub stop_kept : (start p q : NeighbourDegrees) (heard told : List (List (Body CellBody))) (votes : List Vote) → q.part ≡ p.part → length votes ≡ p.part.ranks → p.ended ≡ false → q.cast ≡ p.cast
    → CellsStep max no_degree (state_of p.cells) round_ended (state_of q.cells) → synchronizes (state_of p.cells) ≡ true → BackwardRefreshes max no_degree → ForwardJoins max no_degree
    → KeepsMap start heard told p → KeepsMap start (append_marks p.part.rank votes heard) told q
stop_kept start p q heard told votes part voting running cast step over refreshes joins kept =
    let ph = stopped (state_of p.cells).phase (state_of p.cells) (state_of q.cells) step.1 p.backward (sym p.over ∙ running) over in
    round_kept start p q heard told votes part voting step (ap rounds_before ph.1 ∙ sym (ap (λ x. suc (rounds_before x)) ph.0))
    (ap (voted (round_in (state_of q.cells).phase)) cast ∙ (ap (λ x. voted (round_in x) p.cast) ph.1 ∙ sym (ap (λ x. voted (round_in x) p.cast) ph.0))) refreshes joins kept

-- The vote that stands in the rank's place.
pub cast_vote : (votes : List Vote) (own size rank : ℕ) (cast : Option Vote) → length votes ≡ size → rank ≡ own → rank < size → slice_get votes own ≡ cast → (vote : Vote) × (cast ≡ Some vote)
cast_vote votes own size rank cast each is below mine =
    let vote = some_at votes own (omega (arith, each, is, below)) in
    (vote.0, sym mine ∙ vote.1)

-- Nothing is left to be sent once the synchronize is over.
pub stop_sent : (s t : CellState) → CellsStep max no_degree s round_ended t → s.flags.backward ≡ true → is_filling s.phase ≡ false → synchronizes s ≡ true → NothingLeft s → NothingLeft t
stop_sent s t step backward busy over nothing =
    let ph = stopped s.phase s t step.1 backward busy over in
    let is : t ≡ record s { phase = Filling } = subst (λ (x : Phase). t ≡ after_round max no_degree x s) ph.0 step.1 in
    subst NothingLeft (sym is) (record { owed = nothing.owed; noted = λ h. absurd (cc h); unsent = λ h. absurd (cc h) })

pub stop_phase : (s t : CellState) → CellsStep max no_degree s round_ended t → s.flags.backward ≡ true → is_filling s.phase ≡ false → synchronizes s ≡ true → is_filling t.phase ≡ true
stop_phase s t step backward busy over = ap is_filling (stopped s.phase s t step.1 backward busy over).1

-- The flags stay.
flags_after : (ph : Phase) (s t : CellState) → t ≡ after_round max no_degree ph s → s.flags.backward ≡ true → t.flags ≡ s.flags
flags_after Filling s t step backward = ap (λ (c : CellState). c.flags) step
flags_after Closing s t step backward = ap (λ (c : CellState). c.flags) (step ∙ cond-true s.flags.backward _ _ backward)
flags_after Refreshing s t step backward = ap (λ (c : CellState). c.flags) step

pub same_flags : (s t : CellState) → CellsStep max no_degree s round_ended t → s.flags.backward ≡ true → t.flags ≡ s.flags
same_flags s t step backward = flags_after s.phase s t step.1 backward

-- A program whose vote isn't cast hasn't ended.
pub still_running : (p : NeighbourDegrees) → p.cast ≡ None → p.ended ≡ false
still_running p uncast = not_ended p.ended p.last
  where
    not_ended : (b : Bool) → (b ≡ true → is_some p.cast ≡ true) → b ≡ false
    not_ended false h = refl
    not_ended true h = absurd (cc (h refl, ap (λ (c : Option Vote). is_some c) uncast))
