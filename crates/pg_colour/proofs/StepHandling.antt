-- A rank keeps its promise as it begins, and when it handles a message.
use Rattle.std.proofs.Common.{◌≡◌, ℕ, zero, suc, ◌+◌, ◌*◌, ◌<◌, ◌≤◌, List, [], ◌∷◌, Option, Some, None, length, take, slice_get, refl, sym, ◌∙◌, ap, subst, ⊎_elim, arith, All, AllPairs, true≢false}
use Rattle.std.specs.List.{range_with_len}
use Rattle.std.proofs.lemmas.Bool.{cases_eq, cases_Bool}
use Rattle.std.proofs.lemmas.Option.{none-some}
use Rattle.std.proofs.lemmas.List.Elements.{All-nil}
use Rattle.std.proofs.lemmas.List.FromFn.{length-range_with_len, get_or-range_with_len}
use Rattle.pg_group.specs.declared.messages.Body.{Body}
use Rattle.pg_group.specs.declared.messages.Body.TheVariants.{Item}
use Rattle.pg_group.specs.declared.messages.Vote.{Vote}
use Rattle.pg_group.specs.Ranked.{IsOther, list_at, append_at}
use Rattle.pg_group.specs.Rolls.{voted}
use Rattle.pg_group.specs.Rounds.{marks, items_of_round, votes_of}
use Rattle.pg_group.specs.Supersteps.{nothing}
use Rattle.pg_group.proofs.RollLemmas.{marks-item, length-append_at, list_at-append_same, list_at-append_else}
use Rattle.pg_adj.specs.Portions.{Portion}
use Rattle.pg_cells.specs.declared.bodies.CellBody.{CellBody}
use Rattle.pg_cells.specs.States.{refreshes_of}
use Rattle.pg_colour.specs.declared.TheConstants.{NO_COLOUR}
use Rattle.pg_colour.specs.Passes.{Cells, no_colours, Passes}
use Rattle.pg_colour.specs.Refreshed.{refreshes_to, IsRefreshTo, AreRefreshes, AreSound, values_for, last_or, home_of, seen_after}
use Rattle.pg_colour.specs.LocalColour.{State, History, own_before, AreCounted, IsVoteIn, KeepsPasses, LocalColour}
use Rattle.pg_colour.specs.Steps.{IsOpening, OpeningKeeps, HasHandled, HandlingKeeps}
use Rattle.pg_colour.proofs.StepLists.{none_at, votes-item}
use Rattle.pg_colour.proofs.PassSteps.{pass_end}
use Rattle.pg_colour.proofs.Seeing.{passes_kept, nothing_kept, was_sound, is_from, seen_before, seen_more, seen_else, no_value}

pub none_some_vote : (v : Vote) (cast : Option Vote) → cast ≡ None → cast ≡ Some v → ⊥
none_some_vote v cast none some = none-some v (sym none ∙ some)

length-nothing : (n : ℕ) → length (nothing {B = CellBody} n) ≡ n
length-nothing zero = refl
length-nothing (suc n) = ap suc (length-nothing n)

range_ascends : (n : ℕ) → AllPairs (λ k l. k < l) (range_with_len 0 n)
range_ascends n i j d less below =
    let size = length-range_with_len 0 n in
    omega (arith, less, get_or-range_with_len 0 n i d (omega (arith, less, below, size)), get_or-range_with_len 0 n j d (omega (arith, below, size)))

seen_nothing : (part : Portion) (n k slot : ℕ) → seen_after part (nothing n) k slot ≡ NO_COLOUR
seen_nothing part n zero slot = refl
seen_nothing part n (suc k) slot =
    ap (λ (list : List (Body CellBody)). last_or (seen_after part (nothing n) k slot) (values_for slot (items_of_round k list))) (none_at n (home_of part slot))
    ∙ seen_nothing part n k slot

first_list : ℕ → ℕ → List ℕ
first_list n zero = range_with_len 0 n
first_list n (suc j) = []

first_is : (n : ℕ) → first_list n 0 ≡ range_with_len 0 n
unfolding first_list
first_is n = refl

module _ (part : Portion) (s : State) (is : IsOpening part s) where
  abbrev none : List (List (Body CellBody))
  none = nothing part.ranks

  abbrev history : History
  history = record { list = first_list (length part.vertices); own = λ j. no_colours }

  zeroth : (j : ℕ) → s.round ≡ 2 * j → j ≡ 0
  zeroth j e = omega (arith, e, is.round)

  opening_counted : AreCounted part none none s
  opening_counted = record {
    from_each = length-nothing part.ranks;
    to_each = length-nothing part.ranks;
    alone = none_at part.ranks part.rank;
    running = λ e q o. ap marks (none_at part.ranks q) ∙ sym is.round;
    closed = λ e. absurd (true≢false (sym e ∙ is.ended));
    stopped = λ e. absurd (true≢false (sym e ∙ is.ended));
    given = λ q o. ap marks (none_at part.ranks q) ∙ (sym is.round ∙ ap (voted s.round) (sym is.cast));
    later = λ q k o h. ap (items_of_round k) (none_at part.ranks q);
  }

  opening_refreshes : AreRefreshes part none
  opening_refreshes = record {
    even = λ q j o. ap (items_of_round (2 * j)) (none_at part.ranks q);
    odd = λ q j o. subst (λ (list : List (Body CellBody)). All (IsRefreshTo part q) (items_of_round (2 * j + 1) list)) (sym (none_at part.ranks q)) (All-nil (IsRefreshTo part q));
  }

  opening_first : (j : ℕ) → s.round ≡ 2 * j → s.list ≡ first_list (length part.vertices) j
  opening_first j e = is.list ∙ (sym (first_is (length part.vertices)) ∙ ap (first_list (length part.vertices)) (sym (zeroth j e)))

  opening_pass : (j : ℕ) → s.round ≡ 2 * j → Passes part (seen_after part none (2 * j)) (take s.done s.list) (own_before history j) s.own
  opening_pass j e =
      let first : Passes part (seen_after part none (2 * j)) [] no_colours s.own = λ place. is.own place in
      subst (λ (i : ℕ). Passes part (seen_after part none (2 * j)) (take s.done s.list) (own_before history i) s.own) (sym (zeroth j e))
      (subst (λ (n : ℕ). Passes part (seen_after part none (2 * j)) (take n s.list) no_colours s.own) (sym is.done) first)

  opening_coloured : KeepsPasses part none none history s
  opening_coloured = record {
    passes = record {
      begins = first_is (length part.vertices);
      ascends = λ j within. subst (λ (i : ℕ). AllPairs (λ k l. k < l) (first_list (length part.vertices) i)) (omega (arith, within, is.round))
          (subst (λ (list : List ℕ). AllPairs (λ k l. k < l) list) (sym (first_is (length part.vertices))) (range_ascends (length part.vertices)));
      clashes = λ j place within. absurd (omega (arith, within, is.round));
      passes = λ j within. absurd (omega (arith, within, is.round));
    };
    present = record {
      list = opening_first;
      partly = opening_pass;
      coloured_all = λ j v e at. absurd (none_some_vote v s.cast is.cast at);
      own = λ j place e. absurd (omega (arith, e, is.round));
      seen = λ slot h. is.seen slot h ∙ sym (seen_nothing part part.ranks (s.round + 2) slot);
    };
    sends = record {
      all = λ q j o h. absurd (omega (arith, h, ap (voted s.round) is.cast, is.round));
      some = λ q j o e. absurd (omega (arith, e, is.round));
    };
    voting = record {
      votes = λ q k v o at. absurd (none-some v (sym (ap (λ (list : List (Body CellBody)). slice_get (votes_of list) k) (none_at part.ranks q)) ∙ at));
      cast = λ v at. absurd (none_some_vote v s.cast is.cast at);
    };
    ending = record {
      ended = λ e. absurd (true≢false (sym e ∙ is.ended));
      going = λ j h. absurd (omega (arith, h, is.round));
    };
  }

pub opening_keeps : OpeningKeeps
opening_keeps part s is = record {
  history = record { list = first_list (length part.vertices); own = λ j. no_colours };
  counted = opening_counted part s is;
  refreshes = opening_refreshes part s is;
  coloured = λ sound. opening_coloured part s is;
}

module _ (part : Portion) (handled sent : List (List (Body CellBody))) (s t : State) (from : ℕ) (m : CellBody) (other : IsOther part.rank part.ranks from)
    (after : HasHandled part from m s t) (keeps : LocalColour part handled sent s) where
  abbrev counts : AreCounted part handled sent s
  counts = keeps.counted

  abbrev h : History
  h = keeps.history

  here : from < length handled
  here = omega (arith, other.0, counts.from_each)

  abbrev more : List (List (Body CellBody))
  more = append_at handled from (Item m)

  marks_kept : (q : ℕ) → marks (list_at more q) ≡ marks (list_at handled q)
  marks_kept q = ⊎_elim
      (λ same. subst (λ (x : ℕ). marks (list_at more x) ≡ marks (list_at handled x)) (sym same)
      (ap marks (list_at-append_same handled from (Item m) here) ∙ marks-item (list_at handled from) m))
      (λ apart. ap marks (list_at-append_else handled from q (Item m) apart))
      (cases_eq q from)

  votes_kept : (q : ℕ) → votes_of (list_at more q) ≡ votes_of (list_at handled q)
  votes_kept q = ⊎_elim
      (λ same. subst (λ (x : ℕ). votes_of (list_at more x) ≡ votes_of (list_at handled x)) (sym same)
      (ap votes_of (list_at-append_same handled from (Item m) here) ∙ votes-item (list_at handled from) m))
      (λ apart. ap votes_of (list_at-append_else handled from q (Item m) apart))
      (cases_eq q from)

  -- The present round of the sender's list is the rank's, or the one behind it.
  now_low : s.round ≤ marks (list_at handled from)
  now_low = ⊎_elim (λ e. omega (arith, counts.closed e from other)) (λ e. omega (arith, counts.running e from other)) (cases_Bool s.ended)

  now_high : marks (list_at handled from) ≤ s.round + 1
  now_high = ⊎_elim (λ e. omega (arith, counts.closed e from other)) (λ e. omega (arith, counts.running e from other)) (cases_Bool s.ended)

  counted : AreCounted part more sent t
  counted = record {
    from_each = length-append_at handled from (Item m) ∙ counts.from_each;
    to_each = counts.to_each;
    alone = list_at-append_else handled from part.rank (Item m) (λ e. other.1 (sym e)) ∙ counts.alone;
    running = λ e q o. marks_kept q ∙ (counts.running (sym after.ended ∙ e) q o ∙ sym after.round);
    stopped = λ e none. counts.stopped (sym after.ended ∙ e) (sym after.cast ∙ none);
    closed = λ e q o. marks_kept q ∙ (counts.closed (sym after.ended ∙ e) q o ∙ ap suc (sym after.round));
    given = λ q o. counts.given q o ∙ (λ i. voted (sym after.round i) (sym after.cast i));
    later = λ q k o late. counts.later q k o (omega (arith, late, after.round));
  }

  module _ (sound : AreSound part more) where
    is : KeepsPasses part handled sent h s
    is = keeps.coloured (was_sound part handled from m here other sound)

    seen_early : (n : ℕ) → n ≤ s.round → seen_after part handled n ≡ seen_after part more n
    seen_early n within = seen_before part handled from m here other n (omega (arith, within, now_low))

    seen_now : (slot : ℕ) → slot < length part.ghosts → t.seen slot ≡ seen_after part more (t.round + 2) slot
    seen_now slot below =
        let refresh = is_from part handled from m here other sound in
        let next : s.round + 2 ≡ t.round + 2 = omega (arith, after.round) in
        after.seen refresh slot below
        ∙ (ap (λ (x : ℕ). last_or x (values_for slot (m ∷ []))) (is.present.seen slot below)
        ∙ (⊎_elim
        (λ home. sym (seen_more part handled from m here other (s.round + 2) slot (omega (arith, now_high)) home))
        (λ else. ap (last_or (seen_after part handled (s.round + 2) slot)) (no_value part handled from m here other slot refresh else)
        ∙ sym (seen_else part handled from m here other (s.round + 2) slot else))
        (cases_eq (home_of part slot) from)
        ∙ ap (λ (n : ℕ). seen_after part more n slot) next))

    own_stays : (place : ℕ) → t.own place ≡ s.own place
    own_stays place = after.own (is_from part handled from m here other sound) place

    partly : (j : ℕ) → t.round ≡ 2 * j → Passes part (seen_after part more (2 * j)) (take t.done t.list) (own_before h j) t.own
    partly j e =
        let was = is.present.partly j (sym after.round ∙ e) in
        subst (λ (n : ℕ). Passes part (seen_after part more (2 * j)) (take n t.list) (own_before h j) t.own) (sym after.done)
        (subst (λ (list : List ℕ). Passes part (seen_after part more (2 * j)) (take s.done list) (own_before h j) t.own) (sym after.list)
        (pass_end part (seen_after part more (2 * j)) (take s.done s.list) (own_before h j) s.own t.own own_stays
        (subst (λ (seen : Cells). Passes part seen (take s.done s.list) (own_before h j) s.own) (seen_early (2 * j) (omega (arith, e, after.round))) was)))

    votes_same : (j q : ℕ) → slice_get (votes_of (list_at handled q)) (2 * j) ≡ slice_get (votes_of (list_at more q)) (2 * j)
    votes_same j q = ap (λ (votes : List Vote). slice_get votes (2 * j)) (sym (votes_kept q))

    coloured : KeepsPasses part more sent h t
    coloured = record {
      passes = passes_kept part handled more s.round t.round h after.round seen_early is.passes;
      present = record {
        list = λ j e. after.list ∙ is.present.list j (sym after.round ∙ e);
        partly = partly;
        coloured_all = λ j v e at. after.done ∙ (is.present.coloured_all j v (sym after.round ∙ e) (sym after.cast ∙ at) ∙ ap length (sym after.list));
        own = λ j place e. own_stays place ∙ is.present.own j place (sym after.round ∙ e);
        seen = seen_now;
      };
      sends = record {
        all = λ q j o less. is.sends.all q j o (subst (λ (n : ℕ). 2 * j + 1 < n) (λ i. voted (after.round i) (after.cast i)) less);
        some = λ q j o e. subst (λ (n : ℕ). items_of_round (2 * j + 1) (list_at sent q) ≡ refreshes_to q (h.own j) (take n (refreshes_of part))) (sym after.done)
            (is.sends.some q j o (sym after.round ∙ e));
      };
      voting = record {
        votes = is.voting.votes;
        cast = λ v at. subst (λ (k : ℕ). IsVoteIn h k v) (sym after.round) (is.voting.cast v (sym after.cast ∙ at));
      };
      ending = record {
        ended = λ e.
            let was = is.ending.ended (sym after.ended ∙ e) in
            record { pass = was.pass; round_is = after.round ∙ was.round_is; nothing = nothing_kept part handled more h was.pass (λ q o. votes_same was.pass q) was.nothing };
        going = λ j less none. is.ending.going j (omega (arith, less, after.round)) (nothing_kept part more handled h j (λ q o. sym (votes_same j q)) none);
      };
    }

pub handling_keeps : HandlingKeeps
handling_keeps part handled sent s t from m other after keeps = record {
  history = keeps.history;
  counted = counted part handled sent s t from m other after keeps;
  refreshes = keeps.refreshes;
  coloured = λ sound. coloured part handled sent s t from m other after keeps sound;
}
