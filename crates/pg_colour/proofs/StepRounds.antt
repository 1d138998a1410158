-- A rank keeps its promise when it votes, goes on to the next round, and ends.
use Rattle.std.proofs.Common.{◌≡◌, ◌↔◌, ◌==◌, cond, ℕ, zero, suc, ◌+◌, ◌-◌, ◌*◌, ◌<◌, ◌≤◌, false, List, [], ◌∷◌, ◌++◌, Some, length, take, slice_get, refl, sym, ◌∙◌, ap, subst, ⊎_elim, arith, All, AllPairs, Contains, true≢false}
use Rattle.std.proofs.lemmas.Bool.{cases_eq, cases_lt, eq-eqb, ne_eqb, cond-true, cond-false}
use Rattle.std.proofs.lemmas.Option.{same_Some, slice_get_within}
use Rattle.std.proofs.lemmas.List.{take_all, length_push}
use Rattle.pg_group.specs.declared.messages.Body.{Body}
use Rattle.pg_group.specs.declared.messages.Body.TheVariants.{Mark}
use Rattle.pg_group.specs.declared.messages.Vote.{Vote}
use Rattle.pg_group.specs.Ranked.{IsOther, list_at}
use Rattle.pg_group.specs.Rolls.{voted}
use Rattle.pg_group.specs.Rounds.{marks, items_of_round, votes_of}
use Rattle.pg_group.specs.Supersteps.{append_others, append_marks}
use Rattle.pg_group.proofs.Counting.{some_at, marks_counted}
use Rattle.pg_group.proofs.RollLemmas.{marks-mark, round-mark, length-append_others, list_at-append_others, length-append_marks}
use Rattle.pg_adj.specs.Portions.{Portion}
use Rattle.pg_cells.specs.declared.bodies.CellBody.{CellBody}
use Rattle.pg_cells.specs.States.{refreshes_of}
use Rattle.pg_colour.specs.Passes.{Cells, Passes, IsClash}
use Rattle.pg_colour.specs.Refreshed.{refreshes_to, IsRefreshTo, IsRefreshFrom, AreRefreshes, AreSound, seen_after}
use Rattle.pg_colour.specs.LocalColour.{State, History, own_before, AreCounted, IsVoteIn, HasNothing, KeepsPasses, LocalColour}
use Rattle.pg_colour.specs.Steps.{IsVoteOf, HasVoted, VotingKeeps, AreNothing, HasGoneOn, GoingOnKeeps, HasStopped, EndingKeeps}
use Rattle.pg_colour.proofs.StepLists.{votes-mark, vote_before, vote_last, marks_at, marks_own, items_marks}
use Rattle.pg_colour.proofs.PassSteps.{SeenAlike, clash_alike, pass_end}
use Rattle.pg_colour.proofs.Seeing.{passes_kept, nothing_kept, seen_agree, seen_rest, seen_behind, none_later}
use Rattle.pg_colour.proofs.StepHandling.{none_some_vote}

-- A pass by other names.
pass_same : (part : Portion) (seen seen' : Cells) (list list' : List ℕ) (before before' after after' : Cells) → seen ≡ seen' → list ≡ list' → before ≡ before' → after ≡ after'
    → Passes part seen list before after → Passes part seen' list' before' after'
pass_same part seen seen' list list' before before' after after' a b c d passes =
    subst (λ (x : Cells). Passes part x list' before' after') a
    (subst (λ (x : List ℕ). Passes part seen x before' after') b
    (subst (λ (x : Cells). Passes part seen list x after') c
    (subst (λ (x : Cells). Passes part seen list before x) d passes)))

no_length : (list : List ℕ) → length list ≡ 0 → list ≡ []
no_length [] none = refl
no_length (x ∷ list) none = absurd (omega (arith, none))

module _ (part : Portion) (handled sent : List (List (Body CellBody))) (s t : State) (vote : Vote) (it : IsVoteOf part s vote) (did : HasVoted part vote s t) (keeps : LocalColour part handled sent s) where
  abbrev counts : AreCounted part handled sent s
  counts = keeps.counted

  abbrev h : History
  h = keeps.history

  abbrev more : List (List (Body CellBody))
  more = append_others part.rank (Mark vote) sent

  joined : (q : ℕ) → IsOther part.rank part.ranks q → list_at more q ≡ list_at sent q ++ Mark vote ∷ []
  joined q o = list_at-append_others part.rank (Mark vote) sent q (omega (arith, o.0, counts.to_each)) o.1

  votes_until : voted s.round s.cast ≡ s.round
  votes_until = ap (voted s.round) did.uncast

  votes_since : voted t.round t.cast ≡ s.round + 1
  votes_since = ap (voted t.round) did.cast ∙ ap (λ (n : ℕ). n + 1) did.round

  marks_were : (q : ℕ) → IsOther part.rank part.ranks q → marks (list_at sent q) ≡ s.round
  marks_were q o = counts.given q o ∙ votes_until

  items_still : (q k : ℕ) → IsOther part.rank part.ranks q → items_of_round k (list_at more q) ≡ items_of_round k (list_at sent q)
  items_still q k o = ap (items_of_round k) (joined q o) ∙ round-mark k (list_at sent q) vote

  voted_counted : AreCounted part handled more t
  voted_counted = record {
    from_each = counts.from_each;
    to_each = length-append_others part.rank (Mark vote) sent ∙ counts.to_each;
    alone = counts.alone;
    running = λ e q o. counts.running (sym did.ended ∙ e) q o ∙ sym did.round;
    stopped = λ e none. none_some_vote vote t.cast none did.cast;
    closed = λ e q o. counts.closed (sym did.ended ∙ e) q o ∙ ap suc (sym did.round);
    given = λ q o. omega (arith, ap marks (joined q o), marks-mark (list_at sent q) vote, marks_were q o, votes_since);
    later = λ q k o late. items_still q k o ∙ counts.later q k o (omega (arith, late, did.round));
  }

  voted_refreshes : AreRefreshes part more
  voted_refreshes = record {
    even = λ q i o. items_still q (2 * i) o ∙ keeps.refreshes.even q i o;
    odd = λ q i o. subst (λ (items : List CellBody). All (IsRefreshTo part q) items) (sym (items_still q (2 * i + 1) o)) (keeps.refreshes.odd q i o);
  }

  module _ (is : KeepsPasses part handled sent h s) where
    this_vote : IsVoteIn h s.round vote
    this_vote = record {
      pass = λ i e. (it.pass i e).1 ∙ ap length (is.present.list i e);
      refresh = λ i e. (it.refresh i e).1;
      b = it.b;
      c = it.c;
      d = it.d;
    }

    vote_by : (q k : ℕ) (v : Vote) → IsOther part.rank part.ranks q → slice_get (votes_of (list_at sent q ++ Mark vote ∷ [])) k ≡ Some v → IsVoteIn h k v
    vote_by q k v o at = ⊎_elim
        (λ before. is.voting.votes q k v o (sym (vote_before (list_at sent q) vote k before) ∙ at))
        (λ from.
        let within = slice_get_within (votes_of (list_at sent q ++ Mark vote ∷ [])) k v at in
        let last : k ≡ marks (list_at sent q) = omega (arith, from, within, ap length (votes-mark (list_at sent q) vote), length_push (votes_of (list_at sent q)) vote, marks_counted (list_at sent q)) in
        let same : vote ≡ v = same_Some vote v (sym (vote_last (list_at sent q) vote k last) ∙ at) in
        subst (IsVoteIn h k) same (subst (λ (n : ℕ). IsVoteIn h n vote) (sym (last ∙ marks_were q o)) this_vote))
        (cases_lt k (marks (list_at sent q)))

    voted_partly : (i : ℕ) → t.round ≡ 2 * i → Passes part (seen_after part handled (2 * i)) (take t.done t.list) (own_before h i) t.own
    voted_partly i e =
        pass_end part (seen_after part handled (2 * i)) (take t.done t.list) (own_before h i) s.own t.own did.own
        (subst (λ (list : List ℕ). Passes part (seen_after part handled (2 * i)) list (own_before h i) s.own) (λ n. take (sym did.done n) (sym did.list n)) (is.present.partly i (sym did.round ∙ e)))

    voted_sent : (q i : ℕ) → IsOther part.rank part.ranks q → 2 * i + 1 < s.round + 1 → items_of_round (2 * i + 1) (list_at sent q) ≡ refreshes_to q (h.own i) (refreshes_of part)
    voted_sent q i o less = ⊎_elim
        (λ now.
        is.sends.some q i o (sym now)
        ∙ ap (refreshes_to q (h.own i)) (take_all s.done (refreshes_of part) (omega (arith, (it.refresh i (sym now)).0))))
        (λ apart. is.sends.all q i o (omega (arith, less, apart, votes_until)))
        (cases_eq (2 * i + 1) s.round)

    voted_coloured : KeepsPasses part handled more h t
    voted_coloured = record {
      passes = passes_kept part handled handled s.round t.round h did.round (λ n within. refl) is.passes;
      present = record {
        list = λ i e. did.list ∙ is.present.list i (sym did.round ∙ e);
        partly = voted_partly;
        coloured_all = λ i v e at. did.done ∙ ((it.pass i (sym did.round ∙ e)).0 ∙ ap length (sym did.list));
        own = λ i p e. did.own p ∙ is.present.own i p (sym did.round ∙ e);
        seen = λ slot below. did.seen slot below ∙ (is.present.seen slot below ∙ ap (λ (n : ℕ). seen_after part handled (n + 2) slot) (sym did.round));
      };
      sends = record {
        all = λ q i o less. items_still q (2 * i + 1) o ∙ voted_sent q i o (omega (arith, less, votes_since));
        some = λ q i o e.
            items_still q (2 * i + 1) o ∙ (is.sends.some q i o (sym did.round ∙ e) ∙ ap (λ (n : ℕ). refreshes_to q (h.own i) (take n (refreshes_of part))) (sym did.done));
      };
      voting = record {
        votes = λ q k v o at. vote_by q k v o (ap (λ (list : List (Body CellBody)). slice_get (votes_of list) k) (sym (joined q o)) ∙ at);
        cast = λ v at.
            subst (IsVoteIn h t.round) (same_Some vote v (sym did.cast ∙ at)) (subst (λ (n : ℕ). IsVoteIn h n vote) (sym did.round) this_vote);
      };
      ending = record {
        ended = λ e. let was = is.ending.ended (sym did.ended ∙ e) in record { pass = was.pass; round_is = did.round ∙ was.round_is; nothing = was.nothing };
        going = λ i less none. is.ending.going i (omega (arith, less, did.round)) none;
      };
    }

pub voting_keeps : VotingKeeps
voting_keeps part handled sent s t vote it did keeps = record {
  history = keeps.history;
  counted = voted_counted part handled sent s t vote it did keeps;
  refreshes = voted_refreshes part handled sent s t vote it did keeps;
  coloured = λ sound. voted_coloured part handled sent s t vote it did keeps (keeps.coloured sound);
}

-- A round ends with the votes of all ranks.
module _ (part : Portion) (handled sent : List (List (Body CellBody))) (s : State) (votes : List Vote) (vote : Vote) (cast : s.cast ≡ Some vote)
    (running : s.ended ≡ false) (each : length votes ≡ part.ranks) (keeps : LocalColour part handled sent s) where
  abbrev ended_round : List (List (Body CellBody))
  ended_round = append_marks part.rank votes handled

  voted_now : voted s.round s.cast ≡ s.round + 1
  voted_now = ap (voted s.round) cast

  marked : (q : ℕ) (v : Vote) → IsOther part.rank part.ranks q → slice_get votes q ≡ Some v → list_at ended_round q ≡ list_at handled q ++ Mark v ∷ []
  marked q v o at = marks_at part.rank votes handled q v (omega (arith, o.0, keeps.counted.from_each)) o.1 at

  vote_of : (q : ℕ) → IsOther part.rank part.ranks q → (v : Vote) × (slice_get votes q ≡ Some v)
  vote_of q o = some_at votes q (omega (arith, o.0, each))

  marks_until : (q : ℕ) → IsOther part.rank part.ranks q → marks (list_at handled q) ≡ s.round
  marks_until q o = keeps.counted.running running q o

  marks_now : (q : ℕ) → IsOther part.rank part.ranks q → marks (list_at ended_round q) ≡ suc s.round
  marks_now q o =
      let v = vote_of q o in
      ap marks (marked q v.0 o v.1) ∙ (marks-mark (list_at handled q) v.0 ∙ ap suc (marks_until q o))

  round_items : (q k : ℕ) → items_of_round k (list_at ended_round q) ≡ items_of_round k (list_at handled q)
  round_items q k = items_marks k part.rank votes handled q

  round_sound : AreSound part ended_round → AreSound part handled
  round_sound sound = record {
    even = λ q j o. sym (round_items q (2 * j)) ∙ sound.even q j o;
    odd = λ q j o. subst (λ (items : List CellBody). All (IsRefreshFrom part q) items) (round_items q (2 * j + 1)) (sound.odd q j o);
  }

  seen_same : (n : ℕ) → seen_after part handled n ≡ seen_after part ended_round n
  seen_same n = seen_agree part handled ended_round n (λ q k h. sym (round_items q k))

  early_vote : (q k : ℕ) → IsOther part.rank part.ranks q → k < s.round → slice_get (votes_of (list_at handled q)) k ≡ slice_get (votes_of (list_at ended_round q)) k
  early_vote q k o less =
      let v = vote_of q o in
      sym (ap (λ (list : List (Body CellBody)). slice_get (votes_of list) k) (marked q v.0 o v.1) ∙ vote_before (list_at handled q) v.0 k (omega (arith, less, marks_until q o)))

  this_round : (q k : ℕ) (v : Vote) → IsOther part.rank part.ranks q → k ≡ s.round → slice_get votes q ≡ Some v → slice_get (votes_of (list_at ended_round q)) k ≡ Some v
  this_round q k v o now at =
      ap (λ (list : List (Body CellBody)). slice_get (votes_of list) k) (marked q v o at) ∙ vote_last (list_at handled q) v k (now ∙ sym (marks_until q o))

  module _ (t : State) (did : HasStopped part votes s t) where
    end_counted : AreCounted part ended_round sent t
    end_counted = record {
      from_each = length-append_marks part.rank votes handled ∙ keeps.counted.from_each;
      to_each = keeps.counted.to_each;
      alone = marks_own part.rank votes handled ∙ keeps.counted.alone;
      running = λ e. absurd (true≢false (sym did.ended ∙ e));
      stopped = λ e none. none_some_vote vote s.cast (sym did.cast ∙ none) cast;
      closed = λ e q o. marks_now q o ∙ ap suc (sym did.round);
      given = λ q o. keeps.counted.given q o ∙ (λ i. voted (sym did.round i) (sym did.cast i));
      later = λ q k o late. keeps.counted.later q k o (omega (arith, late, did.round));
    }

    module _ (is : KeepsPasses part handled sent keeps.history s) where
      end_nothing : HasNothing part ended_round keeps.history did.pass.0
      end_nothing =
          let j : ℕ = did.pass.0 in
          let even : s.round ≡ 2 * j = did.pass.1 in
          record {
            own = no_length (keeps.history.list j) (sym ((is.voting.cast vote cast).pass j even) ∙ did.nothing part.rank vote (did.mine ∙ cast));
            others = λ q v o at.
                let w = vote_of q o in
                let same : w.0 ≡ v = same_Some w.0 v (sym (this_round q (2 * j) w.0 o (sym even) w.1) ∙ at) in
                did.nothing q v (w.1 ∙ ap (λ (x : Vote). Some x) same);
          }

      end_partly : (i : ℕ) → t.round ≡ 2 * i → Passes part (seen_after part ended_round (2 * i)) (take t.done t.list) (own_before keeps.history i) t.own
      end_partly i e =
          pass_end part (seen_after part ended_round (2 * i)) (take t.done t.list) (own_before keeps.history i) s.own t.own did.own
          (pass_same part (seen_after part handled (2 * i)) (seen_after part ended_round (2 * i)) (take s.done s.list) (take t.done t.list) (own_before keeps.history i) (own_before keeps.history i) s.own s.own
          (seen_same (2 * i)) (λ n. take (sym did.done n) (sym did.list n)) refl refl (is.present.partly i (sym did.round ∙ e)))

      end_coloured : KeepsPasses part ended_round sent keeps.history t
      end_coloured = record {
        passes = passes_kept part handled ended_round s.round t.round keeps.history did.round (λ n within. seen_same n) is.passes;
        present = record {
          list = λ i e. did.list ∙ is.present.list i (sym did.round ∙ e);
          partly = end_partly;
          coloured_all = λ i v e at. did.done ∙ (is.present.coloured_all i v (sym did.round ∙ e) (sym did.cast ∙ at) ∙ ap length (sym did.list));
          own = λ i p e. did.own p ∙ is.present.own i p (sym did.round ∙ e);
          seen = λ slot below.
              did.seen slot below
              ∙ (is.present.seen slot below
              ∙ (ap (λ (cells : Cells). cells slot) (seen_same (s.round + 2)) ∙ ap (λ (n : ℕ). seen_after part ended_round (n + 2) slot) (sym did.round)));
        };
        sends = record {
          all = λ q i o less. is.sends.all q i o (subst (λ (n : ℕ). 2 * i + 1 < n) (λ n. voted (did.round n) (did.cast n)) less);
          some = λ q i o e. is.sends.some q i o (sym did.round ∙ e) ∙ ap (λ (n : ℕ). refreshes_to q (keeps.history.own i) (take n (refreshes_of part))) (sym did.done);
        };
        voting = record {
          votes = is.voting.votes;
          cast = λ v at. subst (λ (n : ℕ). IsVoteIn keeps.history n v) (sym did.round) (is.voting.cast v (sym did.cast ∙ at));
        };
        ending = record {
          ended = λ e. record { pass = did.pass.0; round_is = did.round ∙ did.pass.1; nothing = end_nothing };
          going = λ i less none.
              let early : 2 * i < s.round = omega (arith, less, did.round) in
              is.ending.going i early (nothing_kept part ended_round handled keeps.history i (λ q o. sym (early_vote q (2 * i) o early)) none);
        };
      }

  module _ (t : State) (did : HasGoneOn part votes s t) where
    abbrev old : History
    old = keeps.history

    list_next : ℕ → List ℕ
    list_next i = cond (2 * i == s.round + 1) t.list (old.list i)

    own_next : ℕ → Cells
    own_next i = cond (2 * i == s.round) s.own (old.own i)

    pub history_next : History
    history_next = record { list = list_next; own = own_next }

    list_old : (i : ℕ) → 2 * i ≤ s.round → list_next i ≡ old.list i
    unfolding list_next
    list_old i within = cond-false (2 * i == s.round + 1) t.list (old.list i) (ne_eqb (2 * i) (s.round + 1) (λ e. omega (arith, e, within)))

    list_new : (i : ℕ) → 2 * i ≡ s.round + 1 → list_next i ≡ t.list
    unfolding list_next
    list_new i now = cond-true (2 * i == s.round + 1) t.list (old.list i) (eq-eqb (2 * i) (s.round + 1) now)

    own_old : (i : ℕ) → 2 * i < s.round → own_next i ≡ old.own i
    unfolding own_next
    own_old i less = cond-false (2 * i == s.round) s.own (old.own i) (ne_eqb (2 * i) s.round (λ e. omega (arith, e, less)))

    own_new : (i : ℕ) → 2 * i ≡ s.round → own_next i ≡ s.own
    unfolding own_next
    own_new i now = cond-true (2 * i == s.round) s.own (old.own i) (eq-eqb (2 * i) s.round now)

    before_old : (i : ℕ) → 2 * i ≤ s.round → own_before history_next i ≡ own_before old i
    unfolding history_next
    before_old zero within = refl
    before_old (suc i) within = own_old i (omega arith)

    next_counted : AreCounted part ended_round sent t
    next_counted = record {
      from_each = length-append_marks part.rank votes handled ∙ keeps.counted.from_each;
      to_each = keeps.counted.to_each;
      alone = marks_own part.rank votes handled ∙ keeps.counted.alone;
      running = λ e q o. omega (arith, marks_now q o, did.round);
      closed = λ e. absurd (true≢false (sym e ∙ did.ended));
      stopped = λ e. absurd (true≢false (sym e ∙ did.ended));
      given = λ q o. omega (arith, keeps.counted.given q o, voted_now, did.round, ap (voted t.round) did.cast);
      later = λ q k o late. keeps.counted.later q k o (omega (arith, late, did.round));
    }

    module _ (is : KeepsPasses part handled sent old s) where
      own_still : (i p : ℕ) → s.round ≡ 2 * i + 1 → s.own p ≡ own_next i p
      own_still i p odd = is.present.own i p odd ∙ ap (λ (cells : Cells). cells p) (sym (own_old i (omega (arith, odd))))

      seen_alike : (i : ℕ) → s.round ≡ 2 * i + 1 → SeenAlike part s.seen (seen_after part ended_round (2 * i + 2))
      seen_alike i odd slot below =
          is.present.seen slot below
          ∙ (seen_behind part handled sent s i slot keeps.counted running odd
          ∙ ap (λ (cells : Cells). cells slot) (seen_same (2 * i + 2)))

      next_ascends : (i : ℕ) → 2 * i ≤ s.round + 1 → AllPairs (λ k l. k < l) (list_next i)
      next_ascends i within = ⊎_elim
          (λ now.
          let odd : s.round ≡ 2 * (i - 1) + 1 = omega (arith, now) in
          subst (λ (list : List ℕ). AllPairs (λ k l. k < l) list) (sym (list_new i now)) (did.list (i - 1) odd).ascending)
          (λ apart.
          let early : 2 * i ≤ s.round = omega (arith, within, apart) in
          subst (λ (list : List ℕ). AllPairs (λ k l. k < l) list) (sym (list_old i early)) (is.passes.ascends i early))
          (cases_eq (2 * i) (s.round + 1))

      next_clashes : (i place : ℕ) → 2 * i + 2 ≤ s.round + 1
          → Contains (list_next (suc i)) place ↔ ((place < length part.vertices) × IsClash part (own_next i) (seen_after part ended_round (2 * i + 2)) place)
      next_clashes i place within = ⊎_elim
          (λ now.
          let odd : s.round ≡ 2 * i + 1 = omega (arith, now) in
          let listed : list_next (suc i) ≡ t.list = list_new (suc i) (omega (arith, now)) in
          let are = (did.list i odd).clash place in (
            λ c.
                let found = are.0 (subst (λ (list : List ℕ). Contains list place) listed c) in
                (found.0, clash_alike part s.own (own_next i) s.seen (seen_after part ended_round (2 * i + 2)) place (own_still i place odd) (seen_alike i odd) found.1),
            λ found.
                subst (λ (list : List ℕ). Contains list place) (sym listed)
                (are.1 (found.0, clash_alike part (own_next i) s.own (seen_after part ended_round (2 * i + 2)) s.seen place (sym (own_still i place odd)) (λ slot below. sym (seen_alike i odd slot below)) found.1)),
          ))
          (λ apart.
          let early : 2 * i + 2 ≤ s.round = omega (arith, within, apart) in
          let listed : list_next (suc i) ≡ old.list (suc i) = list_old (suc i) (omega (arith, early)) in
          let own : own_next i ≡ old.own i = own_old i (omega (arith, early)) in
          let were = is.passes.clashes i place early in
          let same : (x : ℕ) → own_next i x ≡ old.own i x = λ x. ap (λ (cells : Cells). cells x) own in
          let seen : SeenAlike part (seen_after part handled (2 * i + 2)) (seen_after part ended_round (2 * i + 2)) = λ slot below. ap (λ (cells : Cells). cells slot) (seen_same (2 * i + 2)) in (
            λ c.
                let found = were.0 (subst (λ (list : List ℕ). Contains list place) listed c) in
                (found.0, clash_alike part (old.own i) (own_next i) (seen_after part handled (2 * i + 2)) (seen_after part ended_round (2 * i + 2)) place (sym (same place)) seen found.1),
            λ found.
                subst (λ (list : List ℕ). Contains list place) (sym listed)
                (were.1 (found.0, clash_alike part (own_next i) (old.own i) (seen_after part ended_round (2 * i + 2)) (seen_after part handled (2 * i + 2)) place (same place) (λ slot below. sym (seen slot below)) found.1)),
          ))
          (cases_eq (2 * i + 2) (s.round + 1))

      next_pass : (i : ℕ) → 2 * i < s.round + 1 → Passes part (seen_after part ended_round (2 * i)) (list_next i) (own_before history_next i) (own_next i)
      next_pass i less = ⊎_elim
          (λ now.
          let even : s.round ≡ 2 * i = sym now in
          let all : take s.done s.list ≡ list_next i =
          take_all s.done s.list (omega (arith, is.present.coloured_all i vote even cast)) ∙ (is.present.list i even ∙ sym (list_old i (omega (arith, now)))) in
          pass_same part (seen_after part handled (2 * i)) (seen_after part ended_round (2 * i)) (take s.done s.list) (list_next i) (own_before old i) (own_before history_next i) s.own (own_next i)
          (seen_same (2 * i)) all (sym (before_old i (omega (arith, now)))) (sym (own_new i now)) (is.present.partly i even))
          (λ apart.
          let early : 2 * i < s.round = omega (arith, less, apart) in
          pass_same part (seen_after part handled (2 * i)) (seen_after part ended_round (2 * i)) (old.list i) (list_next i) (own_before old i) (own_before history_next i) (old.own i) (own_next i)
          (seen_same (2 * i)) (sym (list_old i (omega (arith, early)))) (sym (before_old i (omega (arith, early)))) (sym (own_old i early)) (is.passes.passes i early))
          (cases_eq (2 * i) s.round)

      -- As a pass begins the own cells are those after the one before.
      own_begins : (i place : ℕ) → t.round ≡ 2 * i → t.own place ≡ own_before history_next i place
      unfolding history_next
      own_begins zero place e = absurd (omega (arith, e, did.round))
      own_begins (suc j) place e = did.own place ∙ own_still j place (omega (arith, e, did.round))

      next_partly : (i : ℕ) → t.round ≡ 2 * i → Passes part (seen_after part ended_round (2 * i)) (take t.done t.list) (own_before history_next i) t.own
      next_partly i e =
          let begins : Passes part (seen_after part ended_round (2 * i)) [] (own_before history_next i) t.own = λ place. own_begins i place e in
          subst (λ (n : ℕ). Passes part (seen_after part ended_round (2 * i)) (take n t.list) (own_before history_next i) t.own) (sym did.done) begins

      next_seen : (slot : ℕ) → slot < length part.ghosts → t.seen slot ≡ seen_after part ended_round (t.round + 2) slot
      next_seen slot below =
          did.seen slot below
          ∙ (is.present.seen slot below
          ∙ (ap (λ (cells : Cells). cells slot) (seen_same (s.round + 2))
          ∙ sym (seen_rest part ended_round (s.round + 2) (t.round + 2) slot (omega (arith, did.round)) (λ q k low high.
          round_items q k ∙ none_later part handled sent s q k keeps.counted running (omega (arith, low))))))

      vote_kept : (k : ℕ) (v : Vote) → k ≤ s.round → IsVoteIn old k v → IsVoteIn history_next k v
      unfolding history_next
      vote_kept k v within was = record {
        pass = λ i e. was.pass i e ∙ ap length (sym (list_old i (omega (arith, e, within))));
        refresh = was.refresh;
        b = was.b;
        c = was.c;
        d = was.d;
      }

      old_vote : (q k : ℕ) (v : Vote) → IsOther part.rank part.ranks q → slice_get (votes_of (list_at sent q)) k ≡ Some v → IsVoteIn history_next k v
      old_vote q k v o at =
          let within = slice_get_within (votes_of (list_at sent q)) k v at in
          vote_kept k v (omega (arith, within, marks_counted (list_at sent q), keeps.counted.given q o, voted_now)) (is.voting.votes q k v o at)

      -- If no rank had a vertex to colour in this pass, all votes say so.
      all_nothing : (i : ℕ) → s.round ≡ 2 * i → HasNothing part ended_round history_next i → AreNothing votes
      unfolding history_next
      all_nothing i even none r v at = ⊎_elim
          (λ own.
          let same : vote ≡ v = same_Some vote v (sym cast ∙ (sym did.mine ∙ (ap (slice_get votes) (sym own) ∙ at))) in
          ap (λ (x : Vote). x.a) (sym same)
          ∙ ((is.voting.cast vote cast).pass i even ∙ (ap length (sym (list_old i (omega (arith, even)))) ∙ ap length none.own)))
          (λ apart.
          let other : IsOther part.rank part.ranks r = (omega (arith, slice_get_within votes r v at, each), apart) in
          none.others r v other (this_round r (2 * i) v other (sym even) at))
          (cases_eq r part.rank)

      was_nothing : (i : ℕ) → 2 * i < s.round → HasNothing part ended_round history_next i → HasNothing part handled old i
      unfolding history_next
      was_nothing i early none = record {
        own = sym (list_old i (omega (arith, early))) ∙ none.own;
        others = λ q v o at. none.others q v o (sym (early_vote q (2 * i) o early) ∙ at);
      }

      next_going : (i : ℕ) → 2 * i < s.round + 1 → HasNothing part ended_round history_next i → ⊥
      next_going i less none = ⊎_elim
          (λ now. did.something i (sym now) (all_nothing i (sym now) none))
          (λ apart. let early : 2 * i < s.round = omega (arith, less, apart) in is.ending.going i early (was_nothing i early none))
          (cases_eq (2 * i) s.round)

      next_coloured : KeepsPasses part ended_round sent history_next t
      unfolding history_next
      next_coloured = record {
        passes = record {
          begins = list_old 0 (omega arith) ∙ is.passes.begins;
          ascends = λ i within. next_ascends i (omega (arith, within, did.round));
          clashes = λ i place within. next_clashes i place (omega (arith, within, did.round));
          passes = λ i less. next_pass i (omega (arith, less, did.round));
        };
        present = record {
          list = λ i e. sym (list_new i (omega (arith, e, did.round)));
          partly = next_partly;
          coloured_all = λ i v e at. absurd (none_some_vote v t.cast did.cast at);
          own = λ i p e. did.own p ∙ ap (λ (cells : Cells). cells p) (sym (own_new i (omega (arith, e, did.round))));
          seen = next_seen;
        };
        sends = record {
          all = λ q i o less.
              let early : 2 * i + 1 < s.round + 1 = omega (arith, less, did.round, ap (voted t.round) did.cast) in
              is.sends.all q i o (omega (arith, early, voted_now)) ∙ ap (λ (cells : Cells). refreshes_to q cells (refreshes_of part)) (sym (own_old i (omega (arith, early))));
          some = λ q i o e.
              keeps.counted.later q (2 * i + 1) o (omega (arith, e, did.round)) ∙ ap (λ (n : ℕ). refreshes_to q (own_next i) (take n (refreshes_of part))) (sym did.done);
        };
        voting = record {
          votes = old_vote;
          cast = λ v at. absurd (none_some_vote v t.cast did.cast at);
        };
        ending = record {
          ended = λ e. absurd (true≢false (sym e ∙ did.ended));
          going = λ i less none. next_going i (omega (arith, less, did.round)) none;
        };
      }

pub going_on_keeps : GoingOnKeeps
going_on_keeps part handled sent s t votes vote cast did keeps = record {
  history = history_next part handled sent s votes vote cast did.running did.each keeps t did;
  counted = next_counted part handled sent s votes vote cast did.running did.each keeps t did;
  refreshes = keeps.refreshes;
  coloured = λ sound. next_coloured part handled sent s votes vote cast did.running did.each keeps t did (keeps.coloured (round_sound part handled sent s votes vote cast did.running did.each keeps sound));
}

pub ending_keeps : EndingKeeps
ending_keeps part handled sent s t votes vote cast did keeps = record {
  history = keeps.history;
  counted = end_counted part handled sent s votes vote cast did.running did.each keeps t did;
  refreshes = keeps.refreshes;
  coloured = λ sound. end_coloured part handled sent s votes vote cast did.running did.each keeps t did (keeps.coloured (round_sound part handled sent s votes vote cast did.running did.each keeps sound));
}
