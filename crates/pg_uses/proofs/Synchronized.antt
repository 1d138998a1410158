-- A whole run has synchronized the map: its ghosts are fresh, and each own cell has joined what was put to it.
use Rattle.std.proofs.Common.{◌≡◌, ◌≢◌, ◌⊎◌, inl, inr, ℕ, zero, suc, ◌+◌, ◌<◌, ◌≤◌, true, max, List, [], ◌∷◌, ◌++◌, Option, Some, length, map, slice_get, refl, sym, ap, ◌∙◌, subst, arith, Contains}
use Rattle.std.specs.Prelude.{slice_index, slice_index_or}
use Rattle.std.proofs.lemmas.Bool.{cases_eq, cases_lt}
use Rattle.std.proofs.lemmas.Option.{same_Some, slice_get_within}
use Rattle.pg_group.specs.declared.messages.Body.{Body}
use Rattle.pg_group.specs.declared.messages.Envelope.{Envelope}
use Rattle.pg_group.specs.Ranked.{IsOther, list_at}
use Rattle.pg_group.specs.Rounds.{items_of_round}
use Rattle.pg_group.proofs.ByRank.{length_of_map}
use Rattle.pg_lane.specs.declared.settling.Settled.{Settled}
use Rattle.pg_run.specs.Lanes.{sent_on, taken_on}
use Rattle.pg_adj.specs.Portions.{Portion}
use Rattle.pg_cells.specs.declared.bodies.CellBody.{CellBody}
use Rattle.pg_cells.specs.declared.phases.Phase.{Phase}
use Rattle.pg_cells.specs.declared.phases.Phase.TheVariants.{Filling, Closing, Refreshing}
use Rattle.pg_cells.specs.Freshness.{HaveSynchronized, events_at}
use Rattle.pg_cells.specs.Runs.{Run, rounds, ends_a_round, events_of, handled_from, sent_to}
use Rattle.pg_cells.specs.Shown.{state_of}
use Rattle.pg_cells.specs.States.{CellState, new_cells}
use Rattle.pg_cells.specs.Steps.{Event}
use Rattle.pg_cells.specs.Steps.Event.{closed}
use Rattle.pg_uses.specs.declared.neighbours.NeighbourDegrees.{NeighbourDegrees}
use Rattle.pg_uses.specs.MapRuns.{HasKeptMap, IsMapRunOver}
use Rattle.pg_uses.specs.DegreeMaps.{both_ways, is_filling, no_degree, opening, rounds_before}
use Rattle.pg_uses.proofs.Beside.{entry_from_map}
use Rattle.pg_uses.proofs.Events.{ends_appended, rounds_append, run_append}
use Rattle.pg_uses.proofs.Listed.{length-listed, listed, listed-at, listed-past}
use Rattle.pg_uses.proofs.Opening.{opening_closes, opening_handles, opening_rounds, opening_sends}
use Rattle.pg_uses.proofs.WholeRuns.{entry_below, past_end}

all_over : (ph : Phase) → is_filling ph ≡ true → rounds_before ph ≡ 2
all_over Filling h = refl
all_over Closing h = absurd (cc h)
all_over Refreshing h = absurd (cc h)

module _ (parts : List Portion) (programs : List NeighbourDegrees) (lanes : List (Settled (Envelope CellBody))) (run : IsMapRunOver parts programs lanes)
    (order : (rank : ℕ) (part : Portion) → slice_get parts rank ≡ Some part → (part.rank ≡ rank) × (part.ranks ≡ length parts)) where
  abbrev Kept : ℕ → Portion → NeighbourDegrees → Type 0
  Kept rank part p = HasKeptMap (length parts) rank (sent_on (length parts) lanes) (taken_on (length parts) lanes) part p

  -- A rank's program, and all events of its map.
  pub record IsRankRun (rank : ℕ) (part : Portion) (events : List Event) : Type 0 where
    pub program : NeighbourDegrees
    pub there : slice_get programs rank ≡ Some program
    pub kept : Kept rank part program
    pub are : events ≡ opening part ++ kept.keeps.events

  pub rank_run : (rank : ℕ) → (rank < length parts) ⊎ (length parts ≤ rank) → (events : List Event) × ((part : Portion) → slice_get parts rank ≡ Some part → IsRankRun rank part events)
  rank_run rank (inr past) = ([], λ part at. absurd (omega (arith, past, slice_get_within parts rank part at)))
  rank_run rank (inl below) =
      let here = entry_below parts rank below in
      let p = entry_below programs rank (omega (arith, below, run.count)) in
      let kept = run.kept rank p.0 p.1 here.0 here.1 in (
        opening here.0 ++ kept.keeps.events,
        λ part at. let same : here.0 ≡ part = cc in
            subst (λ q. IsRankRun rank q (opening here.0 ++ kept.keeps.events)) same (record { program = p.0; there = p.1; kept = kept; are = refl }),
      )

  abbrev pub events_by : ℕ → List Event
  events_by rank = (rank_run rank (cases_lt rank (length parts))).0

  -- The events of all ranks' maps.
  abbrev pub runs : List (List Event)
  runs = listed events_by (length parts)

  -- Their cells at the end.
  abbrev pub cells : List CellState
  cells = map (λ p. state_of p.cells) programs

  pub run_at : (rank : ℕ) (part : Portion) → slice_get parts rank ≡ Some part → IsRankRun rank part (events_at runs rank)
  run_at rank part at =
      subst (IsRankRun rank part) (sym (listed-at events_by (length parts) rank [] (slice_get_within parts rank part at))) ((rank_run rank (cases_lt rank (length parts))).1 part at)

  pub none_past : (rank : ℕ) → length parts ≤ rank → events_at runs rank ≡ []
  none_past rank past = listed-past events_by (length parts) rank [] past

  module _ (rank : ℕ) (part : Portion) (at : slice_get parts rank ≡ Some part) where
    abbrev here : IsRankRun rank part (events_at runs rank)
    here = run_at rank part at

    pub part_is : here.program.part ≡ part
    part_is = here.kept.keeps.same_part ∙ here.kept.is_map.same_part

    rank_is : here.program.part.rank ≡ rank
    rank_is = ap (λ (p : Portion). p.rank) part_is ∙ (order rank part at).0

    ranks_are : here.program.part.ranks ≡ length parts
    ranks_are = ap (λ (p : Portion). p.ranks) part_is ∙ (order rank part at).1

    as_other : (r : ℕ) → IsOther rank (length parts) r → IsOther here.program.part.rank here.program.part.ranks r
    as_other r other = subst (λ n. IsOther here.program.part.rank n r) (sym ranks_are) (subst (λ n. IsOther n (length parts) r) (sym rank_is) other)

    two_rounds : rounds (events_at runs rank) ≡ 2
    two_rounds =
        let p = here.program in
        let k = here.kept.keeps in
        let over : rounds_before (state_of p.cells).phase ≡ 2 = all_over (state_of p.cells).phase (sym p.over ∙ here.kept.ended) in
        omega (arith, ap rounds here.are, rounds_append (opening part) k.events, opening_rounds part, k.rounds_are, over)

    ends_with_round : ends_a_round (events_at runs rank) ≡ true
    ends_with_round = ap ends_a_round here.are ∙ ends_appended (opening part) here.kept.keeps.events (here.kept.keeps.ends here.kept.ended)

    closes : Contains (events_of 0 (events_at runs rank)) closed
    closes = subst (λ l. Contains (events_of 0 l) closed) (sym here.are) (opening_closes part here.kept.keeps.events)

    ran : (s : CellState) → slice_get cells rank ≡ Some s → Run max no_degree (new_cells no_degree part both_ways) (events_at runs rank) s
    ran s shown =
        let q = entry_from_map (λ (p : NeighbourDegrees). state_of p.cells) programs rank s shown in
        let same : q.0 ≡ here.program = same_Some _ _ (sym q.1 ∙ here.there) in
        let is : state_of here.program.cells ≡ s = ap (λ (p : NeighbourDegrees). state_of p.cells) (sym same) ∙ q.2 in
        let k = here.kept in
        subst (λ l. Run max no_degree (new_cells no_degree part both_ways) l s) (sym here.are)
        (run_append max no_degree (opening part) k.keeps.events (new_cells no_degree part both_ways) (state_of k.start.cells) s k.is_map.opened
        (subst (λ t. Run max no_degree (state_of k.start.cells) k.keeps.events t) is k.keeps.ran))

    -- what it handled from a rank in a round
    handled_is : (from k : ℕ) → k < 2 → handled_from from (events_of k (events_at runs rank)) ≡ items_of_round k (list_at here.kept.heard from)
    handled_is from k low = ap (λ l. handled_from from (events_of k l)) here.are ∙ (opening_handles part from k here.kept.keeps.events ∙ here.kept.keeps.handles from k low)

    sent_is : (to k : ℕ) → sent_to to (events_of k (events_at runs rank)) ≡ items_of_round k (list_at here.kept.told to)
    sent_is to k = ap (λ l. sent_to to (events_of k l)) here.are ∙ (opening_sends part to k here.kept.keeps.events ∙ here.kept.keeps.sends to k)

    heard_from_each : length here.kept.heard ≡ length parts
    heard_from_each = here.kept.keeps.from_each ∙ ranks_are

  delivered : (r from k : ℕ) → r < length parts → k < 2 → handled_from from (events_of k (events_at runs r)) ≡ sent_to r (events_of k (events_at runs from))
  delivered r from k below low =
      let here = entry_below parts r below in
      let mine = run_at r here.0 here.1 in
      handled_is r here.0 here.1 from k low ∙ elim (cases_eq from r) [
        | inl same ↦
            subst (λ x. items_of_round k (list_at mine.kept.heard x) ≡ sent_to r (events_of k (events_at runs x))) (sym same)
            (ap (items_of_round k) mine.kept.own_heard ∙ sym (sent_is r here.0 here.1 r k ∙ ap (items_of_round k) mine.kept.own_told))
        | inr other ↦ elim (cases_lt from (length parts)) [
          | inr past ↦
              ap (items_of_round k) (past_end mine.kept.heard from (omega (arith, past, heard_from_each r here.0 here.1)))
              ∙ sym (ap (λ l. sent_to r (events_of k l)) (none_past from past))
          | inl within ↦
              let there = entry_below parts from within in
              let theirs = run_at from there.0 there.1 in
              ap (items_of_round k) (mine.kept.heard_is from (within, other) ∙ (run.book from r within (below, λ e. other (sym e)) ∙ sym (theirs.kept.told_is r (below, λ e. other (sym e)))))
              ∙ sym (sent_is from there.0 there.1 r k)
        ]
      ]

  pub have_synchronized : HaveSynchronized max no_degree both_ways parts runs cells
  have_synchronized = record {
    closing = 0;
    each_run = length-listed events_by (length parts);
    each_cells = length_of_map (λ (p : NeighbourDegrees). state_of p.cells) programs ∙ run.count;
    ran = λ r part s at shown. ran r part at s shown;
    all_rounds = λ r below. let here = entry_below parts r below in two_rounds r here.0 here.1;
    at_end = λ r below. let here = entry_below parts r below in ends_with_round r here.0 here.1;
    all_close = λ r below. let here = entry_below parts r below in closes r here.0 here.1;
    delivered = delivered;
  }
