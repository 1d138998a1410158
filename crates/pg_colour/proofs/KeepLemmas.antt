-- What a colouring keeps as it works, votes and goes on.
use Rattle.std.proofs.Common.{◌≡◌, ◌<◌, ◌∙◌, ◌+◌, ◌*◌, ℕ, true, false, List, Option, Some, None, length, slice_get, sym, subst, ap, arith}
use Rattle.pg_adj.specs.Portions.{Portion}
use Rattle.pg_cells.specs.declared.bodies.CellBody.{CellBody}
use Rattle.pg_cells.specs.declared.phases.Phase.TheVariants.{Filling, Refreshing}
use Rattle.pg_group.specs.declared.messages.Body.{Body}
use Rattle.pg_group.specs.declared.messages.Vote.{Vote}
use Rattle.pg_group.specs.declared.programs.Worked.{Worked}
use Rattle.pg_group.specs.declared.programs.Worked.TheVariants.{More, Idle, Blocked}
use Rattle.pg_group.specs.Supersteps.{OnMore, OnIdle, OnBlocked, append_marks}
use Rattle.pg_group.proofs.Counting.{some_at}
use Rattle.pg_colour.specs.declared.colouring.Colouring.{Colouring}
use Rattle.pg_colour.specs.Items.{ColoursOne, RefreshesOne, TurnsRound, items_in, phase_in}
use Rattle.pg_colour.specs.LocalColour.{LocalColour, State}
use Rattle.pg_colour.specs.Shown.{KeepsColoured, state_of}
use Rattle.pg_colour.specs.Steps.{AreClashes, AreNothing, HasGoneOn, HasStopped, HasVoted, IsVoteOf}
use Rattle.pg_colour.proofs.Stepping.{colouring_keeps, sending_keeps, going_on_keeps, ending_keeps}
use Rattle.pg_colour.proofs.WorkLemmas.{even_fills, fills_even, filling_apart, next_refreshes, refreshes_odd}

double_fills : (k j : ℕ) → k ≡ 2 * j → phase_in k ≡ Filling
double_fills k j is = let same : k ≡ j + j = omega (arith, is) in ap phase_in same ∙ even_fills j

odd_refreshes : (k j : ℕ) → k ≡ 2 * j + 1 → phase_in k ≡ Refreshing
odd_refreshes k j is = next_refreshes (j + j) k (omega (arith, is)) (even_fills j)

pub kept_by : (start c new : Colouring) (handled sent : List (List (Body CellBody))) → new.part ≡ c.part → c.part ≡ start.part → LocalColour c.part handled sent (state_of new) → KeepsColoured start handled sent new
kept_by start c new handled sent same first keeps = record {
  part = same ∙ first;
  coloured = subst (λ (p : Portion). LocalColour p handled sent (state_of new)) (sym same) keeps;
}

-- The next vertex got its colour.
pub coloured_kept : (part : Portion) (s t : State) (handled sent : List (List (Body CellBody))) → s.cast ≡ None → ColoursOne part s t → LocalColour part handled sent s → LocalColour part handled sent t
coloured_kept part s t handled sent uncast did keeps =
    let even = fills_even s.round did.pass in
    colouring_keeps part handled sent s t even.0 did.place did.colour (omega (arith, even.1)) did.next did.least
    (record { uncast = uncast; round = did.stays.round; cast = did.stays.cast ∙ uncast; ended = did.stays.ended; list = did.stays.list; done = did.done; seen = λ slot below. did.seen slot })
    did.own keeps

-- The next refresh was sent.
pub refreshed_kept : (part : Portion) (s t : State) (handled sent more : List (List (Body CellBody))) → s.cast ≡ None → RefreshesOne part s t sent more → LocalColour part handled sent s → LocalColour part handled more t
refreshed_kept part s t handled sent more uncast did keeps =
    let odd = refreshes_odd s.round did.refresh in
    subst (λ (lists : List (List (Body CellBody))). LocalColour part handled lists t) (sym did.sends)
    (sending_keeps part handled sent s t odd.0 did.pending (omega (arith, odd.1)) did.next did.other
    (record { uncast = uncast; round = did.stays.round; cast = did.stays.cast ∙ uncast; ended = did.stays.ended; list = did.stays.list; done = did.done; seen = λ slot below. did.seen slot })
    did.own keeps)

-- Nothing was done.
pub rested_kept : (part : Portion) (s t : State) (handled sent more : List (List (Body CellBody))) → t ≡ s → more ≡ sent → LocalColour part handled sent s → LocalColour part handled more t
rested_kept part s t handled sent more same unsent keeps =
    subst (λ (lists : List (List (Body CellBody))). LocalColour part handled lists t) (sym unsent) (subst (λ (u : State). LocalColour part handled sent u) (sym same) keeps)

-- One call of work in a refreshing round.
pub worked_kept : (r : Worked) (part : Portion) (s t : State) (handled sent more : List (List (Body CellBody))) → s.cast ≡ None
    → OnMore r (RefreshesOne part s t sent more) → OnIdle r (t ≡ s) → OnIdle r (more ≡ sent) → OnBlocked r (λ _. t ≡ s) → OnBlocked r (λ _. more ≡ sent)
    → LocalColour part handled sent s → LocalColour part handled more t
worked_kept More part s t handled sent more uncast did rests idle_sends stays blocked_sends keeps = refreshed_kept part s t handled sent more uncast did keeps
worked_kept Idle part s t handled sent more uncast did rests idle_sends stays blocked_sends keeps = rested_kept part s t handled sent more rests idle_sends keeps
worked_kept (Blocked to) part s t handled sent more uncast did rests idle_sends stays blocked_sends keeps = rested_kept part s t handled sent more stays blocked_sends keeps

pub on_idle : (r : Worked) (P Q : Type 0) → (P → Q) → OnIdle r P → OnIdle r Q
on_idle More P Q f h = h
on_idle Idle P Q f h = f h
on_idle (Blocked to) P Q f h = h

-- What the vote says.
pub vote_says : (part : Portion) (s : State) (vote : Vote) → s.done ≡ items_in part s.list (phase_in s.round)
    → (phase_in s.round ≡ Filling → vote.a ≡ length s.list) → (phase_in s.round ≡ Refreshing → vote.a ≡ 1) → vote.b ≡ 0 → vote.c ≡ 0 → vote.d ≡ 0 → IsVoteOf part s vote
vote_says part s vote done pass refresh b c d = record {
  pass = λ j even. let fills = double_fills s.round j even in (done ∙ ap (items_in part s.list) fills, pass fills);
  refresh = λ j odd. let refreshes = odd_refreshes s.round j odd in (done ∙ ap (items_in part s.list) refreshes, refresh refreshes);
  b = b;
  c = c;
  d = d;
}

-- The vote is cast.
pub vote_cast : (part : Portion) (s t : State) (vote : Vote) → s.cast ≡ None → t ≡ record s { cast = Some vote } → HasVoted part vote s t
vote_cast part s t vote uncast is = record {
  uncast = uncast;
  round = ap (λ (u : State). u.round) is;
  cast = ap (λ (u : State). u.cast) is;
  ended = ap (λ (u : State). u.ended) is;
  list = ap (λ (u : State). u.list) is;
  done = ap (λ (u : State). u.done) is;
  own = λ k. ap (λ (u : State). u.own k) is;
  seen = λ slot below. ap (λ (u : State). u.seen slot) is;
}

-- There is a vote of the own rank.
pub own_vote : (votes : List Vote) (rank ranks : ℕ) (cast : Option Vote) → length votes ≡ ranks → rank < ranks → slice_get votes rank ≡ cast → (vote : Vote) × (cast ≡ Some vote)
own_vote votes rank ranks cast each within mine = let own = some_at votes rank (omega (arith, within, each)) in (own.0, sym mine ∙ own.1)

module _ (part : Portion) (s t : State) (votes : List Vote) (handled sent : List (List (Body CellBody))) (running : s.ended ≡ false) (each : length votes ≡ part.ranks) (mine : slice_get votes part.rank ≡ s.cast)
    (within : part.rank < part.ranks) where
  cast_is : (vote : Vote) × (s.cast ≡ Some vote)
  cast_is = own_vote votes part.rank part.ranks s.cast each within mine

  -- The step of the law that goes on, and the one that ends.
  pub goes_on_kept : HasGoneOn part votes s t → LocalColour part handled sent s → LocalColour part (append_marks part.rank votes handled) sent t
  goes_on_kept went keeps = going_on_keeps part handled sent s t votes cast_is.0 cast_is.1 went keeps

  pub stop_kept : HasStopped part votes s t → LocalColour part handled sent s → LocalColour part (append_marks part.rank votes handled) sent t
  stop_kept stopped keeps = ending_keeps part handled sent s t votes cast_is.0 cast_is.1 stopped keeps

module _ (part : Portion) (s t : State) (votes : List Vote) (running : s.ended ≡ false) (each : length votes ≡ part.ranks) (mine : slice_get votes part.rank ≡ s.cast) where
  -- After a pass the cells are refreshed.
  pub pass_goes_on : phase_in s.round ≡ Filling → (AreNothing votes → ⊥) → TurnsRound s t → HasGoneOn part votes s t
  pass_goes_on fills some turns = record {
    running = running;
    each = each;
    mine = mine;
    something = λ j even none. some none;
    round = turns.round;
    cast = turns.cast;
    ended = turns.ended ∙ running;
    list = λ j odd. absurd (filling_apart (sym fills ∙ odd_refreshes s.round j odd));
    done = turns.done;
    own = turns.own;
    seen = λ slot below. turns.seen slot;
  }

  -- After a refreshing round the next pass begins.
  pub refresh_goes_on : phase_in s.round ≡ Refreshing → TurnsRound s t → AreClashes part s t.list → HasGoneOn part votes s t
  refresh_goes_on refreshes turns clashes = record {
    running = running;
    each = each;
    mine = mine;
    something = λ j even none. filling_apart (sym (double_fills s.round j even) ∙ refreshes);
    round = turns.round;
    cast = turns.cast;
    ended = turns.ended ∙ running;
    list = λ j odd. clashes;
    done = turns.done;
    own = turns.own;
    seen = λ slot below. turns.seen slot;
  }

  -- The last pass had nothing to colour on any rank.
  pub pass_stops : phase_in s.round ≡ Filling → AreNothing votes → t ≡ record s { ended = true } → HasStopped part votes s t
  pass_stops fills none is =
      let even = fills_even s.round fills in
      record {
        running = running;
        each = each;
        mine = mine;
        pass = (even.0, omega (arith, even.1));
        nothing = none;
        round = ap (λ (u : State). u.round) is;
        cast = ap (λ (u : State). u.cast) is;
        ended = ap (λ (u : State). u.ended) is;
        list = ap (λ (u : State). u.list) is;
        done = ap (λ (u : State). u.done) is;
        own = λ k. ap (λ (u : State). u.own k) is;
        seen = λ slot below. ap (λ (u : State). u.seen slot) is;
      }
