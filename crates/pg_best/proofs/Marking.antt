-- What each call of a running program has to show for the marks that it keeps, and that at its end they give what the law says of an end.
use Rattle.std.proofs.Common.{◌≡◌, ◌≢◌, ◌⊎◌, ◌↔◌, ℕ, zero, suc, ◌+◌, ◌<◌, ◌≤◌, ◌%◌, Bool, true, false, List, [], ◌∷◌, ◌++◌, length, refl, sym, ap, ◌∙◌, subst, inl, inr, arith, Option, Some, None, Contains}
use Rattle.std.specs.Prelude.{slice_get}
use Rattle.std.proofs.lemmas.Bool.{cases_eq}
use Rattle.std.proofs.lemmas.List.Elements.{Contains-push}
use Rattle.pg_group.specs.declared.messages.Body.{Body}
use Rattle.pg_group.specs.declared.messages.Body.TheVariants.{Item, Mark}
use Rattle.pg_group.specs.declared.messages.Vote.{Vote}
use Rattle.pg_group.specs.Ranked.{IsOther, list_at, append_at}
use Rattle.pg_group.specs.Rounds.{marks, votes_of, items_of_round}
use Rattle.pg_group.specs.Supersteps.{append_others, append_each, append_marks}
use Rattle.pg_group.specs.Rolls.{voted}
use Rattle.pg_group.proofs.Lanes.{items_of_round-push}
use Rattle.pg_group.proofs.RollLemmas.{marks-item, marks-mark, round-mark, round-ended, round-to_come, length-append_at, list_at-append_same, list_at-append_else, length-append_others, list_at-append_others, length-append_marks}
use Rattle.pg_best.specs.declared.offers.Offer.{Offer}
use Rattle.pg_best.specs.Parts.{Part, LocalArc}
use Rattle.pg_best.specs.LocalRelax.{HasItemFrom, IsMarked}
use Rattle.pg_best.specs.Marks.{NoItems, IsQuiet, AreAllQuiet, Marks}

votes-item : (bs : List (Body Offer)) (x : Offer) → votes_of (bs ++ Item x ∷ []) ≡ votes_of bs
votes-item [] x = refl
votes-item (Item y ∷ bs) x = votes-item bs x
votes-item (Mark v ∷ bs) x = ap (λ l. v ∷ l) (votes-item bs x)

some_same : (v w : Vote) → Some v ≡ Some w → v ≡ w
some_same v w e = cc

vote_pushed : (bs : List (Body Offer)) (v : Vote) (k : ℕ) (w : Vote) → slice_get (votes_of (bs ++ Mark v ∷ [])) k ≡ Some w → (slice_get (votes_of bs) k ≡ Some w) ⊎ ((k ≡ marks bs) × (v ≡ w))
vote_pushed [] v zero w e = inr (refl, some_same v w e)
vote_pushed [] v (suc k) w e = cc
vote_pushed (Item y ∷ bs) v k w e = vote_pushed bs v k w e
vote_pushed (Mark u ∷ bs) v zero w e = inl e
vote_pushed (Mark u ∷ bs) v (suc k) w e = elim (vote_pushed bs v k w e) [ inl before ↦ inl before | inr now ↦ inr (ap suc now.0, now.1) ]

vote_below : (bs : List (Body Offer)) (k : ℕ) (w : Vote) → slice_get (votes_of bs) k ≡ Some w → k < marks bs
vote_below [] k w e = cc
vote_below (Item y ∷ bs) k w e = vote_below bs k w e
vote_below (Mark u ∷ bs) zero w e = omega arith
vote_below (Mark u ∷ bs) (suc k) w e = omega (arith, vote_below bs k w e)

vote_stays : (bs : List (Body Offer)) (v : Vote) (k : ℕ) (w : Vote) → slice_get (votes_of bs) k ≡ Some w → slice_get (votes_of (bs ++ Mark v ∷ [])) k ≡ Some w
vote_stays [] v k w e = cc
vote_stays (Item y ∷ bs) v k w e = vote_stays bs v k w e
vote_stays (Mark u ∷ bs) v zero w e = e
vote_stays (Mark u ∷ bs) v (suc k) w e = vote_stays bs v k w e

vote_last : (bs : List (Body Offer)) (v : Vote) → slice_get (votes_of (bs ++ Mark v ∷ [])) (marks bs) ≡ Some v
vote_last [] v = refl
vote_last (Item y ∷ bs) v = vote_last bs v
vote_last (Mark u ∷ bs) v = vote_last bs v

voter_below : (votes : List Vote) (r : ℕ) (w : Vote) → slice_get votes r ≡ Some w → r < length votes
voter_below [] r w e = cc
voter_below (v ∷ votes) zero w e = omega arith
voter_below (v ∷ votes) (suc r) w e = omega (arith, voter_below votes r w e)

-- another rank than this one
pub other_than : (own size : ℕ) → 1 < size → (rank : ℕ) × IsOther own size rank
other_than zero size some = (1, (some, λ e. absurd (omega (arith, e))))
other_than (suc own) size some = (0, (omega (arith, some), λ e. absurd (omega (arith, e))))

-- The votes of the lists stand in others too.
abbrev VotesStay : Part → List (List (Body Offer)) → List (List (Body Offer)) → ℕ → Type 0
VotesStay part lists lists' k = (r : ℕ) (w : Vote) → IsOther part.rank part.ranks r → slice_get (votes_of (list_at lists r)) k ≡ Some w → slice_get (votes_of (list_at lists' r)) k ≡ Some w

-- as lists grow, a round of which all votes are quiet was one before
quiet_before : (part : Part) (handled handled' sent sent' : List (List (Body Offer))) (k : ℕ) → VotesStay part handled handled' k → VotesStay part sent sent' k
    → AreAllQuiet part handled' sent' k → AreAllQuiet part handled sent k
quiet_before part handled handled' sent sent' k in_handled in_sent all = record {
  others = λ from vote other is. all.others from vote other (in_handled from vote other is);
  mine = λ to vote other is. all.mine to vote other (in_sent to vote other is);
}

at_each : (votes : List Vote) (lists : List (List (Body Offer))) (k : ℕ) → k < length lists → k < length votes → (vote : Vote) × (slice_get votes k ≡ Some vote) × (list_at (append_each votes lists) k ≡ list_at lists k ++ Mark vote ∷ [])
at_each [] lists k h l = absurd (omega arith)
at_each (v ∷ vs) [] k h l = absurd (omega arith)
at_each (v ∷ vs) (list ∷ lists) zero h l = (v, refl, refl)
at_each (v ∷ vs) (list ∷ lists) (suc k) h l = at_each vs lists k (omega arith) (omega arith)

-- another rank's list gets its vote as a mark
at_marks : (own : ℕ) (votes : List Vote) (lists : List (List (Body Offer))) (k : ℕ) → k < length lists → k < length votes → k ≢ own
    → (vote : Vote) × (slice_get votes k ≡ Some vote) × (list_at (append_marks own votes lists) k ≡ list_at lists k ++ Mark vote ∷ [])
at_marks own [] lists k h l other = absurd (omega arith)
at_marks own (v ∷ vs) [] k h l other = absurd (omega arith)
at_marks zero (v ∷ vs) (list ∷ lists) zero h l other = absurd (other refl)
at_marks zero (v ∷ vs) (list ∷ lists) (suc k) h l other = at_each vs lists k (omega arith) (omega arith)
at_marks (suc own) (v ∷ vs) (list ∷ lists) zero h l other = (v, refl, refl)
at_marks (suc own) (v ∷ vs) (list ∷ lists) (suc k) h l other = at_marks own vs lists k (omega arith) (omega arith) (λ e. other (ap suc e))

pushed_not_empty : (items : List Offer) (x : Offer) → items ++ x ∷ [] ≡ [] → ⊥
pushed_not_empty [] x e = cc
pushed_not_empty (y ∷ items) x e = cc

-- an item joins a list of the rank's
counted_at : (lists : List (List (Body Offer))) (k j : ℕ) (x : Offer) → k < length lists → marks (list_at (append_at lists k (Item x)) j) ≡ marks (list_at lists j)
counted_at lists k j x h = elim (cases_eq j k) [
  | inl same ↦ subst (λ i. marks (list_at (append_at lists k (Item x)) i) ≡ marks (list_at lists i)) (sym same)
      (ap marks (list_at-append_same lists k (Item x) h) ∙ marks-item (list_at lists k) x)
  | inr apart ↦ ap marks (list_at-append_else lists k j (Item x) apart)
]

voted_at : (lists : List (List (Body Offer))) (k j : ℕ) (x : Offer) → k < length lists → votes_of (list_at (append_at lists k (Item x)) j) ≡ votes_of (list_at lists j)
voted_at lists k j x h = elim (cases_eq j k) [
  | inl same ↦ subst (λ i. votes_of (list_at (append_at lists k (Item x)) i) ≡ votes_of (list_at lists i)) (sym same)
      (ap votes_of (list_at-append_same lists k (Item x) h) ∙ votes-item (list_at lists k) x)
  | inr apart ↦ ap votes_of (list_at-append_else lists k j (Item x) apart)
]

-- rounds that marks have ended on each list are as they were
ended_at : (lists : List (List (Body Offer))) (k j i : ℕ) (x : Offer) → k < length lists → i < marks (list_at lists k) → items_of_round i (list_at (append_at lists k (Item x)) j) ≡ items_of_round i (list_at lists j)
ended_at lists k j i x h l = elim (cases_eq j k) [
  | inl same ↦ subst (λ n. items_of_round i (list_at (append_at lists k (Item x)) n) ≡ items_of_round i (list_at lists n)) (sym same)
      (ap (items_of_round i) (list_at-append_same lists k (Item x) h) ∙ round-ended i (list_at lists k) x l)
  | inr apart ↦ ap (items_of_round i) (list_at-append_else lists k j (Item x) apart)
]

module _ (part : Part) (handled sent : List (List (Body Offer))) (due : LocalArc → Bool) (round : ℕ) (cast : Option Vote) (over sends : Bool) (m : Marks part handled sent due round cast over sends) where
  count_of : (from : ℕ) → IsOther part.rank part.ranks from → (b : Bool) → over ≡ b → round ≤ marks (list_at handled from)
  count_of from other true e = omega (arith, m.closed e from other)
  count_of from other false e = omega (arith, m.running e from other)

  -- any arc may become due while an item is handled
  pub handle_marks : (from : ℕ) (o : Offer) (due' : LocalArc → Bool) → IsOther part.rank part.ranks from → Marks part (append_at handled from (Item o)) sent due' round cast over sends
  handle_marks from o due' other =
      let within : from < length handled = omega (arith, m.from_each, other.0) in
      let list = list_at handled from in
      record {
        from_each = length-append_at handled from (Item o) ∙ m.from_each;
        to_each = m.to_each;
        running = λ e f away. counted_at handled from f o within ∙ m.running e f away;
        closed = λ e f away. counted_at handled from f o within ∙ m.closed e f away;
        given = m.given;
        even = m.even;
        cast_even = m.cast_even;
        present = m.present;
        after = m.after;
        quiet = λ vote c q a busy. record {
          rank = from;
          other = other;
          later = marks list;
          from = count_of from other over refl;
          item = o;
          among = subst (λ (l : List (Body Offer)). Contains (items_of_round (marks list) l) o) (sym (list_at-append_same handled from (Item o) within))
              (subst (λ (l : List Offer). Contains l o) (sym (items_of_round-push list o)) (Contains-push (items_of_round (marks list) list) o));
        };
        ended = λ e f vote away is. m.ended e f vote away (subst (λ (vs : List Vote). slice_get vs round ≡ Some vote) (voted_at handled from f o within) is);
        own = m.own;
        told = m.told;
        going = λ some k early all.
            m.going some k early (quiet_before part handled (append_at handled from (Item o)) sent sent k
            (λ r w h is. ap (λ vs. slice_get vs k) (voted_at handled from r o within) ∙ is) (λ r w h is. is) all);
      }

  -- an item is sent before the vote
  pub send_marks : (to : ℕ) (o : Offer) (due' : LocalArc → Bool) → IsOther part.rank part.ranks to → cast ≡ None → over ≡ false → Marks part handled (append_at sent to (Item o)) due' round cast over true
  send_marks to o due' other uncast runs =
      let within : to < length sent = omega (arith, m.to_each, other.0) in
      let list = list_at sent to in
      let count : marks list ≡ round = m.given to other ∙ ap (voted round) uncast in
      let kept : (k : ℕ) → k < round → (r : ℕ) → items_of_round k (list_at (append_at sent to (Item o)) r) ≡ items_of_round k (list_at sent r) = λ k l r. ended_at sent to r k o within (omega arith) in
      record {
        from_each = m.from_each;
        to_each = length-append_at sent to (Item o) ∙ m.to_each;
        running = m.running;
        closed = m.closed;
        given = λ t away. counted_at sent to t o within ∙ m.given t away;
        even = λ t k vote away is.
            let before : slice_get (votes_of (list_at sent t)) k ≡ Some vote = subst (λ (vs : List Vote). slice_get vs k ≡ Some vote) (voted_at sent to t o within) is in
            let low : k < round = omega (arith, vote_below (list_at sent t) k vote before, m.given t away, ap (voted round) uncast) in
            let old = m.even t k vote away before in
            (λ b r h. kept k low r ∙ old.0 b r h, λ none. old.1 (λ r h. sym (kept k low r) ∙ none r h));
        cast_even = λ vote e. cc;
        present = (
          λ e. cc,
          λ none.
              let grown : items_of_round round (list_at (append_at sent to (Item o)) to) ≡ items_of_round round list ++ o ∷ [] =
              ap (items_of_round round) (list_at-append_same sent to (Item o) within)
              ∙ subst (λ (n : ℕ). items_of_round n (list ++ Item o ∷ []) ≡ items_of_round n list ++ o ∷ []) count (items_of_round-push list o) in
              absurd (pushed_not_empty (items_of_round round list) o (sym grown ∙ none to other)),
        );
        after = λ vote e. cc;
        quiet = λ vote e q a busy. cc;
        ended = m.ended;
        own = λ e. cc;
        told = λ vote e. cc;
        going = λ some k early all.
            m.going some k early (quiet_before part handled handled sent (append_at sent to (Item o)) k
            (λ r w h is. is) (λ r w h is. ap (λ vs. slice_get vs k) (voted_at sent to r o within) ∙ is) all);
      }

  -- the vote is cast where no arc is due, or it says that something is
  pub vote_marks : (vote : Vote) → cast ≡ None → over ≡ false → ((vote.b % 2 ≡ 0) ↔ (sends ≡ false)) → (IsQuiet vote → (a : LocalArc) → due a ≡ false)
      → Marks part handled (append_others part.rank (Mark vote) sent) due round (Some vote) over sends
  vote_marks vote uncast runs says idle =
      let now = append_others part.rank (Mark vote) sent in
      let at : (r : ℕ) → IsOther part.rank part.ranks r → list_at now r ≡ list_at sent r ++ Mark vote ∷ [] = λ r h. list_at-append_others part.rank (Mark vote) sent r (omega (arith, m.to_each, h.0)) h.1 in
      let count : (r : ℕ) → IsOther part.rank part.ranks r → marks (list_at sent r) ≡ round = λ r h. m.given r h ∙ ap (voted round) uncast in
      let same : (k r : ℕ) → IsOther part.rank part.ranks r → items_of_round k (list_at now r) ≡ items_of_round k (list_at sent r) = λ k r h. ap (items_of_round k) (at r h) ∙ round-mark k (list_at sent r) vote in
      record {
        from_each = m.from_each;
        to_each = length-append_others part.rank (Mark vote) sent ∙ m.to_each;
        running = m.running;
        closed = m.closed;
        given = λ r h. ap marks (at r h) ∙ (marks-mark (list_at sent r) vote ∙ (ap suc (count r h) ∙ omega arith));
        even = λ t k w h is.
            elim (vote_pushed (list_at sent t) vote k w (subst (λ (l : List (Body Offer)). slice_get (votes_of l) k ≡ Some w) (at t h) is)) [
              | inl before ↦ let old = m.even t k w h before in (λ b r o. same k r o ∙ old.0 b r o, λ none. old.1 (λ r o. sym (same k r o) ∙ none r o))
              | inr last ↦
                  let k_is : round ≡ k = sym (last.0 ∙ count t h) in
                  let b_is : vote.b ≡ w.b = ap (λ (v : Vote). v.b) last.1 in
                  subst (λ (b : ℕ). (b % 2 ≡ 0) ↔ NoItems part now k) b_is (subst (λ (n : ℕ). (vote.b % 2 ≡ 0) ↔ NoItems part now n) k_is
                  (λ b r o. same round r o ∙ m.present.0 (says.0 b) r o, λ none. says.1 (m.present.1 (λ r o. sym (same round r o) ∙ none r o))))
            ];
        cast_even = λ w e.
            let b_is : vote.b ≡ w.b = ap (λ (v : Vote). v.b) (some_same vote w e) in
            subst (λ (b : ℕ). (b % 2 ≡ 0) ↔ NoItems part now round) b_is
            (λ b r o. same round r o ∙ m.present.0 (says.0 b) r o, λ none. says.1 (m.present.1 (λ r o. sym (same round r o) ∙ none r o)));
        present = (λ e r o. same round r o ∙ m.present.0 e r o, λ none. m.present.1 (λ r o. sym (same round r o) ∙ none r o));
        after = λ w e r o. same (suc round) r o ∙ round-to_come (suc round) (list_at sent r) (omega (arith, count r o));
        quiet = λ w e q a busy.
            let v_is : w ≡ vote = some_same w vote (sym e) in
            let still : due a ≡ false = idle (subst IsQuiet v_is q) a in cc;
        ended = m.ended;
        own = λ e. cc;
        told = λ w e r h.
            ap (λ l. slice_get (votes_of l) round) (at r h)
            ∙ subst (λ n. slice_get (votes_of (list_at sent r ++ Mark vote ∷ [])) n ≡ Some vote) (count r h) (vote_last (list_at sent r) vote) ∙ e;
        going = λ some k early all.
            m.going some k early (quiet_before part handled handled sent now k
            (λ r w h is. is) (λ r w h is. ap (λ l. slice_get (votes_of l) k) (at r h) ∙ vote_stays (list_at sent r) vote k w is) all);
      }

  -- the lists after a round has ended with these votes
  abbrev marked_by : List Vote → List (List (Body Offer))
  marked_by votes = append_marks part.rank votes handled

  votes_stay : (votes : List Vote) → length votes ≡ part.ranks → (k : ℕ) → VotesStay part handled (marked_by votes) k
  votes_stay votes each k r w h is =
      let at = at_marks part.rank votes handled r (omega (arith, m.from_each, h.0)) (omega (arith, h.0)) h.1 in
      ap (λ l. slice_get (votes_of l) k) at.2 ∙ vote_stays (list_at handled r) at.0 k w is

  -- where a round's marks are quiet, so are the votes with which it ends
  quiet_votes : (votes : List Vote) → over ≡ false → length votes ≡ part.ranks → slice_get votes part.rank ≡ cast → 1 < part.ranks
      → AreAllQuiet part (marked_by votes) sent round → (r : ℕ) (w : Vote) → slice_get votes r ≡ Some w → IsQuiet w
  quiet_votes votes runs each mine some all r w is = elim (cases_eq r part.rank) [
    | inl same ↦
        let other = other_than part.rank part.ranks some in
        let was : cast ≡ Some w = sym mine ∙ subst (λ n. slice_get votes n ≡ Some w) same is in
        all.mine other.0 w other.1 (m.told w was other.0 other.1)
    | inr apart ↦
        let h : IsOther part.rank part.ranks r = (omega (arith, voter_below votes r w is, each), apart) in
        let at = at_marks part.rank votes handled r (omega (arith, m.from_each, h.0)) (omega (arith, h.0)) h.1 in
        all.others r w h (ap (λ l. slice_get (votes_of l) round) at.2
        ∙ subst (λ n. slice_get (votes_of (list_at handled r ++ Mark at.0 ∷ [])) n ≡ Some at.0) (m.running runs r h) (vote_last (list_at handled r) at.0)
        ∙ sym at.1 ∙ is)
  ]

  -- in a round that ends, or an earlier one, some vote says that something is left
  still_going : (votes : List Vote) → over ≡ false → length votes ≡ part.ranks → slice_get votes part.rank ≡ cast → (((r : ℕ) (w : Vote) → slice_get votes r ≡ Some w → IsQuiet w) → ⊥)
      → 1 < part.ranks → (k : ℕ) → k < round + 1 → AreAllQuiet part (marked_by votes) sent k → ⊥
  still_going votes runs each mine left some k early all = elim (cases_eq k round) [
    | inl same ↦ left (quiet_votes votes runs each mine some (subst (AreAllQuiet part (marked_by votes) sent) same all))
    | inr apart ↦ m.going some k (omega arith) (quiet_before part handled (marked_by votes) sent sent k (votes_stay votes each k) (λ r w h is. is) all)
  ]

  -- a round ends, and the program goes on
  pub again_marks : (votes : List Vote) (vote : Vote) (due' : LocalArc → Bool) → over ≡ false → length votes ≡ part.ranks → cast ≡ Some vote → slice_get votes part.rank ≡ cast
      → (((r : ℕ) (w : Vote) → slice_get votes r ≡ Some w → IsQuiet w) → ⊥)
      → Marks part (append_marks part.rank votes handled) sent due' (round + 1) None over false
  again_marks votes vote due' runs each was at_own left = record {
    from_each = length-append_marks part.rank votes handled ∙ m.from_each;
    to_each = m.to_each;
    running = λ e r h.
        let at = at_marks part.rank votes handled r (omega (arith, m.from_each, h.0)) (omega (arith, h.0)) h.1 in
        ap marks at.2 ∙ (marks-mark (list_at handled r) at.0 ∙ (ap suc (m.running e r h) ∙ omega arith));
    closed = λ e. cc;
    given = λ r h. m.given r h ∙ ap (voted round) was;
    even = m.even;
    cast_even = λ w e. cc;
    present = (λ e. let next : suc round ≡ round + 1 = omega arith in subst (NoItems part sent) next (m.after vote was), λ none. refl);
    after = λ w e. cc;
    quiet = λ w e q a busy. cc;
    ended = λ e. cc;
    own = λ e. cc;
    told = λ w e. cc;
    going = still_going votes runs each at_own left;
  }

  -- a round ends, and with it the program
  pub stop_marks : (votes : List Vote) (vote : Vote) → over ≡ false → length votes ≡ part.ranks → cast ≡ Some vote → IsQuiet vote
      → ((r : ℕ) (w : Vote) → slice_get votes r ≡ Some w → IsQuiet w) → ((a : LocalArc) → due a ≡ true → HasItemFrom part (append_marks part.rank votes handled) round)
      → Marks part (append_marks part.rank votes handled) sent due round cast true sends
  stop_marks votes vote runs each was mine all left =
      let at = λ (r : ℕ) (h : IsOther part.rank part.ranks r). at_marks part.rank votes handled r (omega (arith, m.from_each, h.0)) (omega (arith, h.0)) h.1 in
      record {
        from_each = length-append_marks part.rank votes handled ∙ m.from_each;
        to_each = m.to_each;
        running = λ e. cc;
        closed = λ e r h. let a = at r h in ap marks a.2 ∙ (marks-mark (list_at handled r) a.0 ∙ ap suc (m.running runs r h));
        given = m.given;
        even = m.even;
        cast_even = m.cast_even;
        present = m.present;
        after = m.after;
        quiet = λ w e q a busy. left a busy;
        ended = λ e r w h is.
            let a = at r h in
            elim (vote_pushed (list_at handled r) a.0 round w (subst (λ (l : List (Body Offer)). slice_get (votes_of l) round ≡ Some w) a.2 is)) [
              | inl before ↦ absurd (omega (arith, vote_below (list_at handled r) round w before, m.running runs r h))
              | inr last ↦ subst IsQuiet last.1 (all r a.0 a.1)
            ];
        own = λ e. (vote, was, mine);
        told = m.told;
        going = λ some k early all.
            m.going some k early (quiet_before part handled (marked_by votes) sent sent k (votes_stay votes each k) (λ r w h is. is) all);
      }

  -- marks at the end of a round take no item away
  pub still_handled : (votes : List Vote) → length votes ≡ part.ranks → HasItemFrom part handled round → HasItemFrom part (append_marks part.rank votes handled) round
  still_handled votes each h =
      let at = at_marks part.rank votes handled h.rank (omega (arith, m.from_each, h.other.0)) (omega (arith, h.other.0)) h.other.1 in
      record {
        rank = h.rank;
        other = h.other;
        later = h.later;
        from = h.from;
        item = h.item;
        among = subst (λ (l : List Offer). Contains l h.item) (sym (ap (items_of_round h.later) at.2 ∙ round-mark h.later (list_at handled h.rank) at.0)) h.among;
      }

  -- At the end this is what the law says of an end.
  pub marks_at_end : over ≡ true → IsMarked part handled sent due round
  marks_at_end e =
      let mine = m.own e in
      record {
        counted = λ to h. m.given to h ∙ (ap (voted round) mine.1 ∙ omega arith);
        even = m.even;
        ended = λ from vote h is. let q = m.ended e from vote h is in (q.a, q.b);
        left = λ a busy. m.quiet mine.0 mine.1 mine.2 a busy;
      }
