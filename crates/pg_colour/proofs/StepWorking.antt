-- A rank keeps its promise when it colours a place, and when it sends a refresh.
use Rattle.std.proofs.Common.{◌≡◌, ◌≢◌, ◌==◌, ℕ, suc, ◌+◌, ◌*◌, ◌<◌, false, List, [], ◌∷◌, ◌++◌, append-nil, Some, length, map, filter, take, slice_get, refl, sym, ◌∙◌, ap, subst, inl, inr, ⊎_elim, arith, All}
use Rattle.std.proofs.lemmas.Bool.{cases_eq, cases_Bool}
use Rattle.std.proofs.lemmas.Option.{none-some, slice_get_within, get_or_from_slice_get}
use Rattle.std.proofs.lemmas.List.{take_more, map-append}
use Rattle.std.proofs.lemmas.List.Elements.{All-push, filter-append}
use Rattle.pg_group.specs.declared.messages.Body.{Body}
use Rattle.pg_group.specs.declared.messages.Body.TheVariants.{Item}
use Rattle.pg_group.specs.declared.messages.Vote.{Vote}
use Rattle.pg_group.specs.Ranked.{IsOther, list_at, append_at}
use Rattle.pg_group.specs.Rolls.{voted}
use Rattle.pg_group.specs.Rounds.{marks, items_of_round, votes_of}
use Rattle.pg_group.proofs.RollLemmas.{marks-item, length-append_at, list_at-append_same, list_at-append_else}
use Rattle.pg_adj.specs.Portions.{Portion}
use Rattle.pg_adj.proofs.MirrorLists.{Contains-at}
use Rattle.pg_cells.specs.declared.bodies.CellBody.{CellBody}
use Rattle.pg_cells.specs.declared.bodies.CellBody.TheVariants.{Refresh}
use Rattle.pg_cells.specs.declared.refreshes.PendingRefresh.{PendingRefresh}
use Rattle.pg_cells.specs.States.{refreshes_of}
use Rattle.pg_colour.specs.Passes.{Cells, IsLeastFree, with_cell, Passes}
use Rattle.pg_colour.specs.Refreshed.{refresh_of, refreshes_to, IsRefreshTo, AreRefreshes, AreSound, seen_after}
use Rattle.pg_colour.specs.LocalColour.{State, History, own_before, AreCounted, KeepsPasses, LocalColour}
use Rattle.pg_colour.specs.Steps.{HasDone, ColouringKeeps, SendingKeeps}
use Rattle.pg_colour.proofs.Arrived.{refreshes_yes, refreshes_no}
use Rattle.pg_colour.proofs.StepLists.{votes-item}
use Rattle.pg_colour.proofs.PassSteps.{SeenAlike, free_alike, pass_more}
use Rattle.pg_colour.proofs.Seeing.{passes_kept, seen_in_pass, items_same, items_new}
use Rattle.pg_colour.proofs.StepHandling.{none_some_vote}

module _ (part : Portion) (handled sent : List (List (Body CellBody))) (s t : State) (did : HasDone part s t) (keeps : LocalColour part handled sent s) where
  abbrev counts : AreCounted part handled sent s
  counts = keeps.counted

  abbrev h : History
  h = keeps.history

  -- No vote is cast before it or after it.
  votes_before : voted s.round s.cast ≡ s.round
  votes_before = ap (voted s.round) did.uncast

  votes_after : voted t.round t.cast ≡ s.round
  votes_after = ap (voted t.round) did.cast ∙ did.round

  counted_by : (more : List (List (Body CellBody))) → length more ≡ part.ranks → ((q : ℕ) → IsOther part.rank part.ranks q → marks (list_at more q) ≡ marks (list_at sent q))
      → ((q k : ℕ) → IsOther part.rank part.ranks q → s.round < k → items_of_round k (list_at more q) ≡ items_of_round k (list_at sent q)) → AreCounted part handled more t
  counted_by more each same later = record {
    from_each = counts.from_each;
    to_each = each;
    alone = counts.alone;
    running = λ e q o. counts.running (sym did.ended ∙ e) q o ∙ sym did.round;
    stopped = λ e none. counts.stopped (sym did.ended ∙ e) did.uncast;
    closed = λ e q o. counts.closed (sym did.ended ∙ e) q o ∙ ap suc (sym did.round);
    given = λ q o. same q o ∙ (counts.given q o ∙ (votes_before ∙ sym votes_after));
    later = λ q k o late. let behind : s.round < k = omega (arith, late, did.round) in later q k o behind ∙ counts.later q k o behind;
  }

  module _ (is : KeepsPasses part handled sent h s) where
    seen_still : (slot : ℕ) → slot < length part.ghosts → t.seen slot ≡ seen_after part handled (t.round + 2) slot
    seen_still slot below = did.seen slot below ∙ (is.present.seen slot below ∙ ap (λ (n : ℕ). seen_after part handled (n + 2) slot) (sym did.round))

    module _ (j place c : ℕ) (even : s.round ≡ 2 * j) (next : slice_get s.list s.done ≡ Some place) (least : IsLeastFree part s.own s.seen place c)
        (own : (p : ℕ) → t.own p ≡ with_cell s.own place c p) (sound : AreSound part handled) where
      running : s.ended ≡ false
      running = ⊎_elim
          (λ over.
          let last = is.ending.ended over in
          let i : ℕ = last.pass in
          let same : j ≡ i = omega (arith, even, last.round_is) in
          let none : s.list ≡ [] = is.present.list j even ∙ (ap h.list same ∙ last.nothing.own) in
          absurd (none-some place (sym (ap (λ (list : List ℕ). slice_get list s.done) none) ∙ next)))
          (λ e. e)
          (cases_Bool s.ended)

      alike : SeenAlike part s.seen (seen_after part handled (2 * j))
      alike slot below = is.present.seen slot below ∙ seen_in_pass part handled sent s j slot counts sound running even

      one_more : take t.done t.list ≡ take s.done s.list ++ place ∷ []
      one_more =
          (λ i. take (did.done i) (did.list i))
          ∙ (take_more s.list s.done 0 (slice_get_within s.list s.done place next)
          ∙ ap (λ (p : ℕ). take s.done s.list ++ p ∷ []) (get_or_from_slice_get s.list s.done place 0 next))

      further : Passes part (seen_after part handled (2 * j)) (take t.done t.list) (own_before h j) t.own
      further =
          subst (λ (list : List ℕ). Passes part (seen_after part handled (2 * j)) list (own_before h j) t.own) (sym one_more)
          (pass_more part (seen_after part handled (2 * j)) (take s.done s.list) (own_before h j) s.own t.own place c (is.present.partly j even)
          (free_alike part s.own s.seen (seen_after part handled (2 * j)) place c alike least) own)

      coloured : KeepsPasses part handled sent h t
      coloured = record {
        passes = passes_kept part handled handled s.round t.round h did.round (λ n within. refl) is.passes;
        present = record {
          list = λ i e. did.list ∙ is.present.list i (sym did.round ∙ e);
          partly = λ i e.
              let same : j ≡ i = omega (arith, even, e, did.round) in
              subst (λ (n : ℕ). Passes part (seen_after part handled (2 * n)) (take t.done t.list) (own_before h n) t.own) same further;
          coloured_all = λ i v e at. absurd (none_some_vote v t.cast did.cast at);
          own = λ i p e. absurd (omega (arith, even, e, did.round));
          seen = seen_still;
        };
        sends = record {
          all = λ q i o less. is.sends.all q i o (omega (arith, less, votes_before, votes_after));
          some = λ q i o e. absurd (omega (arith, even, e, did.round));
        };
        voting = record {
          votes = is.voting.votes;
          cast = λ v at. absurd (none_some_vote v t.cast did.cast at);
        };
        ending = record {
          ended = λ e. let was = is.ending.ended (sym did.ended ∙ e) in record { pass = was.pass; round_is = did.round ∙ was.round_is; nothing = was.nothing };
          going = λ i less none. is.ending.going i (omega (arith, less, did.round)) none;
        };
      }

pub colouring_keeps : ColouringKeeps
colouring_keeps part handled sent s t j place c even next least did own keeps = record {
  history = keeps.history;
  counted = counted_by part handled sent s t did keeps sent keeps.counted.to_each (λ q o. refl) (λ q k o late. refl);
  refreshes = keeps.refreshes;
  coloured = λ sound. coloured part handled sent s t did keeps (keeps.coloured sound) j place c even next least own sound;
}

refreshes_append : (q : ℕ) (own : Cells) (xs ys : List PendingRefresh) → refreshes_to q own (xs ++ ys) ≡ refreshes_to q own xs ++ refreshes_to q own ys
refreshes_append q own xs ys =
    ap (map (refresh_of own)) (filter-append (λ (p : PendingRefresh). p.holder.rank.0 == q) xs ys)
    ∙ map-append (refresh_of own) (filter (λ p. p.holder.rank.0 == q) xs) (filter (λ p. p.holder.rank.0 == q) ys)

module _ (part : Portion) (handled sent : List (List (Body CellBody))) (s t : State) (j : ℕ) (pending : PendingRefresh) (odd : s.round ≡ 2 * j + 1)
    (next : slice_get (refreshes_of part) s.done ≡ Some pending) (other : IsOther part.rank part.ranks pending.holder.rank.0) (did : HasDone part s t) (own : (p : ℕ) → t.own p ≡ s.own p)
    (keeps : LocalColour part handled sent s) where
  abbrev to : ℕ
  to = pending.holder.rank.0

  abbrev message : CellBody
  message = refresh_of s.own pending

  abbrev more : List (List (Body CellBody))
  more = append_at sent to (Item message)

  here : to < length sent
  here = omega (arith, other.0, keeps.counted.to_each)

  now : marks (list_at sent to) ≡ s.round
  now = keeps.counted.given to other ∙ votes_before part handled sent s t did keeps

  marks_kept : (q : ℕ) → marks (list_at more q) ≡ marks (list_at sent q)
  marks_kept q = ⊎_elim
      (λ same. subst (λ (x : ℕ). marks (list_at more x) ≡ marks (list_at sent x)) (sym same)
      (ap marks (list_at-append_same sent to (Item message) here) ∙ marks-item (list_at sent to) message))
      (λ apart. ap marks (list_at-append_else sent to q (Item message) apart))
      (cases_eq q to)

  votes_kept : (q : ℕ) → votes_of (list_at more q) ≡ votes_of (list_at sent q)
  votes_kept q = ⊎_elim
      (λ same. subst (λ (x : ℕ). votes_of (list_at more x) ≡ votes_of (list_at sent x)) (sym same)
      (ap votes_of (list_at-append_same sent to (Item message) here) ∙ votes-item (list_at sent to) message))
      (λ apart. ap votes_of (list_at-append_else sent to q (Item message) apart))
      (cases_eq q to)

  -- Of other rounds than this one nothing changes.
  round_same : (q k : ℕ) → k ≢ s.round → items_of_round k (list_at more q) ≡ items_of_round k (list_at sent q)
  round_same q k apart = items_same part sent to message here other q k (inr (λ e. apart (e ∙ now)))

  is_refresh : IsRefreshTo part to message
  is_refresh = record { pending = pending; value = s.own pending.place; among = Contains-at (refreshes_of part) s.done pending next; rank = refl; is = refl }

  refreshes : AreRefreshes part more
  refreshes = record {
    even = λ q i o. round_same q (2 * i) (λ e. omega (arith, e, odd)) ∙ keeps.refreshes.even q i o;
    odd = λ q i o. ⊎_elim
        (λ at. ⊎_elim
        (λ same.
        let was : All (IsRefreshTo part to) (items_of_round (2 * i + 1) (list_at sent to)) = keeps.refreshes.odd to i other in
        subst (λ (x : ℕ). All (IsRefreshTo part x) (items_of_round (2 * i + 1) (list_at more x))) (sym same)
        (subst (λ (items : List CellBody). All (IsRefreshTo part to) items) (sym (items_new part sent to message here other (2 * i + 1) (at ∙ sym now)))
        (All-push (IsRefreshTo part to) (items_of_round (2 * i + 1) (list_at sent to)) message was is_refresh)))
        (λ else. subst (λ (items : List CellBody). All (IsRefreshTo part q) items) (sym (items_same part sent to message here other q (2 * i + 1) (inl else))) (keeps.refreshes.odd q i o))
        (cases_eq q to))
        (λ apart. subst (λ (items : List CellBody). All (IsRefreshTo part q) items) (sym (round_same q (2 * i + 1) apart)) (keeps.refreshes.odd q i o))
        (cases_eq (2 * i + 1) s.round);
  }

  module _ (is : KeepsPasses part handled sent keeps.history s) where
    entry_more : take t.done (refreshes_of part) ≡ take s.done (refreshes_of part) ++ pending ∷ []
    entry_more =
        ap (λ (n : ℕ). take n (refreshes_of part)) did.done
        ∙ (take_more (refreshes_of part) s.done pending (slice_get_within (refreshes_of part) s.done pending next)
        ∙ ap (λ (p : PendingRefresh). take s.done (refreshes_of part) ++ p ∷ []) (get_or_from_slice_get (refreshes_of part) s.done pending pending next))

    same_message : message ≡ refresh_of (keeps.history.own j) pending
    same_message = ap (λ (x : ℕ). Refresh pending.holder.slot x) (is.present.own j pending.place odd)

    split : (q : ℕ) → refreshes_to q (keeps.history.own j) (take t.done (refreshes_of part))
        ≡ refreshes_to q (keeps.history.own j) (take s.done (refreshes_of part)) ++ refreshes_to q (keeps.history.own j) (pending ∷ [])
    split q = ap (refreshes_to q (keeps.history.own j)) entry_more ∙ refreshes_append q (keeps.history.own j) (take s.done (refreshes_of part)) (pending ∷ [])

    sent_so_far : (q : ℕ) → IsOther part.rank part.ranks q
        → items_of_round (2 * j + 1) (list_at more q) ≡ refreshes_to q (keeps.history.own j) (take t.done (refreshes_of part))
    sent_so_far q o = ⊎_elim
        (λ same.
        let it : pending.holder.rank.0 ≡ q = sym same in
        subst (λ (x : ℕ). items_of_round (2 * j + 1) (list_at more x) ≡ items_of_round (2 * j + 1) (list_at sent x) ++ message ∷ []) it
        (items_new part sent to message here other (2 * j + 1) (sym odd ∙ sym now))
        ∙ ((λ i. is.sends.some q j o odd i ++ same_message i ∷ [])
        ∙ (ap (λ (xs : List CellBody). refreshes_to q (keeps.history.own j) (take s.done (refreshes_of part)) ++ xs) (sym (refreshes_yes q (keeps.history.own j) pending [] it))
        ∙ sym (split q))))
        (λ else.
        items_same part sent to message here other q (2 * j + 1) (inl else)
        ∙ (is.sends.some q j o odd
        ∙ (sym (append-nil (refreshes_to q (keeps.history.own j) (take s.done (refreshes_of part))))
        ∙ (ap (λ (xs : List CellBody). refreshes_to q (keeps.history.own j) (take s.done (refreshes_of part)) ++ xs) (sym (refreshes_no q (keeps.history.own j) pending [] (λ e. else (sym e))))
        ∙ sym (split q)))))
        (cases_eq q to)

    sent_coloured : KeepsPasses part handled more keeps.history t
    sent_coloured = record {
      passes = passes_kept part handled handled s.round t.round keeps.history did.round (λ n within. refl) is.passes;
      present = record {
        list = λ i e. absurd (omega (arith, odd, e, did.round));
        partly = λ i e. absurd (omega (arith, odd, e, did.round));
        coloured_all = λ i v e at. absurd (none_some_vote v t.cast did.cast at);
        own = λ i p e. own p ∙ is.present.own i p (sym did.round ∙ e);
        seen = seen_still part handled sent s t did keeps is;
      };
      sends = record {
        all = λ q i o less.
            let early : 2 * i + 1 < s.round = omega (arith, less, votes_after part handled sent s t did keeps) in
            round_same q (2 * i + 1) (λ e. omega (arith, e, early)) ∙ is.sends.all q i o (omega (arith, early, votes_before part handled sent s t did keeps));
        some = λ q i o e.
            let same : j ≡ i = omega (arith, odd, e, did.round) in
            subst (λ (n : ℕ). items_of_round (2 * n + 1) (list_at more q) ≡ refreshes_to q (keeps.history.own n) (take t.done (refreshes_of part))) same (sent_so_far q o);
      };
      voting = record {
        votes = λ q k v o at. is.voting.votes q k v o (ap (λ (votes : List Vote). slice_get votes k) (sym (votes_kept q)) ∙ at);
        cast = λ v at. absurd (none_some_vote v t.cast did.cast at);
      };
      ending = record {
        ended = λ e. let was = is.ending.ended (sym did.ended ∙ e) in record { pass = was.pass; round_is = did.round ∙ was.round_is; nothing = was.nothing };
        going = λ i less none. is.ending.going i (omega (arith, less, did.round)) none;
      };
    }

pub sending_keeps : SendingKeeps
sending_keeps part handled sent s t j pending odd next other did own keeps = record {
  history = keeps.history;
  counted = counted_by part handled sent s t did keeps (append_at sent pending.holder.rank.0 (Item (refresh_of s.own pending)))
      (length-append_at sent pending.holder.rank.0 (Item (refresh_of s.own pending)) ∙ keeps.counted.to_each)
      (λ q o. marks_kept part handled sent s t j pending odd next other did own keeps q)
      (λ q k o late. round_same part handled sent s t j pending odd next other did own keeps q k (λ e. omega (arith, e, late)));
  refreshes = refreshes part handled sent s t j pending odd next other did own keeps;
  coloured = λ sound. sent_coloured part handled sent s t j pending odd next other did own keeps (keeps.coloured sound);
}
