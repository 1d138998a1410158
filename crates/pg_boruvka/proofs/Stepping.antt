-- A rank keeps its promise when it sends what is due, votes, and ends a round.
use Rattle.std.proofs.Common.{◌≡◌, ◌≢◌, ◌⊎◌, ℕ, zero, suc, ◌+◌, ◌*◌, ◌/◌, ◌%◌, ◌<◌, ◌≤◌, Bool, true, false, List, [], ◌∷◌, ◌++◌, length, refl, sym, ◌∙◌, ap, subst, inl, inr, ⊎_elim, arith, Some, None, All, AllPairs, Contains}
use Rattle.std.proofs.lemmas.Bool.{cases_eq, cases_lt, cases_order, true≢false}
use Rattle.std.proofs.lemmas.List.Elements.{All-nil, All-push}
use Rattle.pg_base.proofs.Members.{contains_first, contains_later, AllPairs-cons}
use Rattle.pg_group.specs.declared.messages.Body.{Body}
use Rattle.pg_group.specs.declared.messages.Body.TheVariants.{Item, Mark}
use Rattle.pg_group.specs.declared.messages.Vote.{Vote}
use Rattle.pg_group.specs.Ranked.{IsOther, list_at, append_at}
use Rattle.pg_group.specs.Rolls.{IsZeros, voted}
use Rattle.pg_group.specs.Rounds.{marks, items_of_round, votes_of}
use Rattle.pg_group.specs.Supersteps.{append_others, append_each, append_marks}
use Rattle.pg_group.proofs.Lanes.{items_of_round-push}
use Rattle.pg_group.proofs.RollLemmas.{marks-item, marks-mark, round-mark, round-ended, round-to_come, length-append_at, list_at-append_same, list_at-append_else, length-append_others, list_at-append_others, length-append_marks}
use Rattle.pg_boruvka.specs.declared.messages.Message.{Message}
use Rattle.pg_boruvka.specs.Parts.{Part}
use Rattle.pg_boruvka.specs.Winners.{winner, items_in}
use Rattle.pg_boruvka.specs.Hooks.{label_in, AreSoundBefore}
use Rattle.pg_boruvka.specs.LocalDense.{State, AreCounted, AreSent, IsBestKeys, IsWinners, IsOwnHook, IsPresent, NoWinner, IsPhase, LocalDense}
use Rattle.pg_boruvka.specs.Steps.{IsDue, SendingKeeps, with_vote, VotingKeeps, ArePhase, in_next_round, GoingOnKeeps, at_end, EndingKeeps}
use Rattle.pg_boruvka.proofs.Agreeing.{winners_agree, labels_agree, sound_agrees, chosen_agrees}
use Rattle.pg_boruvka.proofs.Keeping.{voted_most, NoneLater, later_sent, later_phase, phase_kept}

votes-item : (bs : List (Body Message)) (m : Message) → votes_of (bs ++ Item m ∷ []) ≡ votes_of bs
votes-item [] m = refl
votes-item (Item x ∷ bs) m = votes-item bs m
votes-item (Mark v ∷ bs) m = ap (λ l. v ∷ l) (votes-item bs m)

votes-mark : (bs : List (Body Message)) (v : Vote) → votes_of (bs ++ Mark v ∷ []) ≡ votes_of bs ++ v ∷ []
votes-mark [] v = refl
votes-mark (Item x ∷ bs) v = votes-mark bs v
votes-mark (Mark w ∷ bs) v = ap (λ l. w ∷ l) (votes-mark bs v)

-- One more that isn't among them.
once_more : (xs : List Message) (x : Message) → AllPairs (λ m o. m ≢ o) xs → (Contains xs x → ⊥) → AllPairs (λ m o. m ≢ o) (xs ++ x ∷ [])
once_more [] x once new = AllPairs-cons (λ m o. m ≢ o) x [] (All-nil (λ o. x ≢ o)) (λ i j d l h. absurd (omega (arith, h)))
once_more (y ∷ xs) x once new =
    AllPairs-cons (λ m o. m ≢ o) y (xs ++ x ∷ [])
    (All-push (λ o. y ≢ o) xs x (λ k d h. once 0 (suc k) d (omega arith) (omega arith)) (λ same. new (subst (Contains (y ∷ xs)) same (contains_first y xs))))
    (once_more xs x (λ i j d l h. once (suc i) (suc j) d (omega arith) (omega arith)) (λ c. new (contains_later y xs x c)))

-- An item more in the present round.
sent_more : (s : State) (k : ℕ) (Due : Message → Type 0) (list : List (Body Message)) (m : Message) → marks list ≡ s.round → s.cast ≡ None → (k ≡ s.round → Due m)
    → (Contains (items_of_round s.round list) m → ⊥) → AreSent s k Due list → (k < s.round) ⊎ ((k ≡ s.round) ⊎ (s.round < k)) → AreSent s k Due (list ++ Item m ∷ [])
sent_more s k Due list m at uncast due new are (inl early) =
    let same : items_of_round k (list ++ Item m ∷ []) ≡ items_of_round k list = round-ended k list m (omega arith) in
    record {
      due = subst (λ (items : List Message). All Due items) (sym same) are.due;
      once = subst (λ (items : List Message). AllPairs (λ m o. m ≢ o) items) (sym same) are.once;
      all = λ h o is. subst (λ (items : List Message). Contains items o) (sym same) (are.all h o is);
    }
sent_more s k Due list m at uncast due new are (inr (inl now)) =
    let same : items_of_round k (list ++ Item m ∷ []) ≡ items_of_round k list ++ m ∷ [] =
    subst (λ (x : ℕ). items_of_round x (list ++ Item m ∷ []) ≡ items_of_round x list ++ m ∷ []) (at ∙ sym now) (items_of_round-push list m) in
    let none : voted s.round s.cast ≡ s.round = ap (voted s.round) uncast in
    record {
      due = subst (λ (items : List Message). All Due items) (sym same) (All-push Due (items_of_round k list) m are.due (due now));
      once = subst (λ (items : List Message). AllPairs (λ m o. m ≢ o) items) (sym same)
          (once_more (items_of_round k list) m are.once (λ c. new (subst (λ (x : ℕ). Contains (items_of_round x list) m) now c)));
      all = λ h. absurd (omega (arith, h, none, now));
    }
sent_more s k Due list m at uncast due new are (inr (inr late)) =
    let none : items_of_round k (list ++ Item m ∷ []) ≡ [] = round-to_come k (list ++ Item m ∷ []) (omega (arith, marks-item list m)) in
    record {
      due = subst (λ (items : List Message). All Due items) (sym none) (All-nil Due);
      once = subst (λ (items : List Message). AllPairs (λ m o. m ≢ o) items) (sym none) (λ i j d l h. absurd (omega (arith, h)));
      all = λ h. absurd (omega (arith, voted_most s.round s.cast));
    }

round_cases : (k r : ℕ) → (k < r) ⊎ ((k ≡ r) ⊎ (r < k))
round_cases k r = ⊎_elim
    (λ same. inr (inl same))
    (λ apart. ⊎_elim (λ less. inl less) (λ more. inr (inr more)) apart)
    (cases_order k r)

-- What is due in a round is due in its phase.
due_up : (far : ℕ) (part : Part) (handled : List (List (Body Message))) (round to p : ℕ) (m : Message) → round ≡ 3 * p → IsDue far part handled round to m → IsBestKeys far part handled p to m
due_up far part handled round to p m at (inl first) = subst (λ (q : ℕ). IsBestKeys far part handled q to m) (omega arith) first.1
due_up far part handled round to p m at (inr (inl second)) = absurd (omega (arith, second.0))
due_up far part handled round to p m at (inr (inr third)) = absurd (omega (arith, third.0))

due_down : (far : ℕ) (part : Part) (handled : List (List (Body Message))) (round to p : ℕ) (m : Message) → round ≡ 3 * p + 1 → IsDue far part handled round to m → IsWinners far part handled p m
due_down far part handled round to p m at (inl first) = absurd (omega (arith, first.0))
due_down far part handled round to p m at (inr (inl second)) = subst (λ (q : ℕ). IsWinners far part handled q m) (omega arith) second.1
due_down far part handled round to p m at (inr (inr third)) = absurd (omega (arith, third.0))

due_hook : (far : ℕ) (part : Part) (handled : List (List (Body Message))) (round to p : ℕ) (m : Message) → round ≡ 3 * p + 2 → IsDue far part handled round to m → IsOwnHook far part handled p m
due_hook far part handled round to p m at (inl first) = absurd (omega (arith, first.0))
due_hook far part handled round to p m at (inr (inl second)) = absurd (omega (arith, second.0))
due_hook far part handled round to p m at (inr (inr third)) = subst (λ (q : ℕ). IsOwnHook far part handled q m) (omega arith) third.1

-- Soundness before the phase of a round.
of_round : (far : ℕ) (part : Part) (handled : List (List (Body Message))) (round p : ℕ) → p ≡ round / 3 → AreSoundBefore far part handled p → AreSoundBefore far part handled (round / 3)
of_round far part handled round p same sound = subst (AreSoundBefore far part handled) same sound

pub sending_keeps : SendingKeeps
sending_keeps far part handled sent s to m other uncast due new keeps =
    let was = keeps.counted in
    let more : List (List (Body Message)) = append_at sent to (Item m) in
    let here : to < length sent = omega (arith, other.0, was.to_each) in
    let none : voted s.round s.cast ≡ s.round = ap (voted s.round) uncast in
    let at : marks (list_at sent to) ≡ s.round = was.given to other ∙ none in
    let joined : list_at more to ≡ list_at sent to ++ Item m ∷ [] = list_at-append_same sent to (Item m) here in
    let by_rank : (P : List (Body Message) → Type 0) (r : ℕ) → (r ≡ to → P (list_at sent to ++ Item m ∷ [])) → (r ≢ to → P (list_at sent r)) → P (list_at more r) = λ P r yes no. ⊎_elim
    (λ same. subst (λ (x : ℕ). P (list_at more x)) (sym same) (subst P (sym joined) (yes same)))
    (λ apart. subst P (sym (list_at-append_else sent to r (Item m) apart)) (no apart))
    (cases_eq r to) in
    let counted : AreCounted part handled more s = record {
      from_each = was.from_each;
      to_each = length-append_at sent to (Item m) ∙ was.to_each;
      running = was.running;
      closed = was.closed;
      given = λ r o. by_rank (λ l. marks l ≡ voted s.round s.cast) r (λ same. marks-item (list_at sent to) m ∙ was.given to other) (λ apart. was.given r o);
      zeros = λ r o. by_rank (λ l. All IsZeros (votes_of l)) r (λ same. subst (λ (x : List Vote). All IsZeros x) (sym (votes-item (list_at sent to) m)) (was.zeros to other)) (λ apart. was.zeros r o);
      later = λ r k o h. by_rank (λ l. items_of_round k l ≡ []) r (λ same. round-to_come k (list_at sent to ++ Item m ∷ []) (omega (arith, marks-item (list_at sent to) m, at))) (λ apart. was.later r k o h);
    } in
    record {
      counted = counted;
      phase = λ p sound. ⊎_elim
          (λ late. later_phase far part handled more s p counted.later late)
          (λ begun.
          let is = keeps.phase p sound in
          record {
            up = λ r o. by_rank (λ l. AreSent s (3 * p) (IsBestKeys far part handled p r) l) r
                (λ same. sent_more s (3 * p) (IsBestKeys far part handled p r) (list_at sent to) m at uncast
                (λ now. subst (λ (x : ℕ). IsBestKeys far part handled p x m) (sym same) (due_up far part handled s.round to p m (sym now) (due (of_round far part handled s.round p (omega arith) sound))))
                new (subst (λ (x : ℕ). AreSent s (3 * p) (IsBestKeys far part handled p r) (list_at sent x)) same (is.up r o)) (round_cases (3 * p) s.round))
                (λ apart. is.up r o);
            down = λ r o. by_rank (λ l. AreSent s (3 * p + 1) (IsWinners far part handled p) l) r
                (λ same. sent_more s (3 * p + 1) (IsWinners far part handled p) (list_at sent to) m at uncast
                (λ now. due_down far part handled s.round to p m (sym now) (due (of_round far part handled s.round p (omega arith) sound)))
                new (is.down to other) (round_cases (3 * p + 1) s.round))
                (λ apart. is.down r o);
            hooks = λ r o. by_rank (λ l. AreSent s (3 * p + 2) (IsOwnHook far part handled p) l) r
                (λ same. sent_more s (3 * p + 2) (IsOwnHook far part handled p) (list_at sent to) m at uncast
                (λ now. due_hook far part handled s.round to p m (sym now) (due (of_round far part handled s.round p (omega arith) sound)))
                new (is.hooks to other) (round_cases (3 * p + 2) s.round))
                (λ apart. is.hooks r o);
            labels = is.labels;
            ascending = is.ascending;
            edges = is.edges;
            ended = is.ended;
            going = is.going;
          })
          (cases_lt s.round (3 * p));
    }

to_up : (far : ℕ) (part : Part) (handled : List (List (Body Message))) (round to p : ℕ) (m : Message) → round ≡ 3 * p → IsBestKeys far part handled p to m → IsDue far part handled round to m
to_up far part handled round to p m at is = inl (omega arith, subst (λ (q : ℕ). IsBestKeys far part handled q to m) (omega arith) is)

to_down : (far : ℕ) (part : Part) (handled : List (List (Body Message))) (round to p : ℕ) (m : Message) → round ≡ 3 * p + 1 → IsWinners far part handled p m → IsDue far part handled round to m
to_down far part handled round to p m at is = inr (inl (omega arith, subst (λ (q : ℕ). IsWinners far part handled q m) (omega arith) is))

to_hook : (far : ℕ) (part : Part) (handled : List (List (Body Message))) (round to p : ℕ) (m : Message) → round ≡ 3 * p + 2 → IsOwnHook far part handled p m → IsDue far part handled round to m
to_hook far part handled round to p m at is = inr (inr (omega arith, subst (λ (q : ℕ). IsOwnHook far part handled q m) (omega arith) is))

-- A mark behind a list that has all that is due.
mark_more : (s : State) (vote : Vote) (k : ℕ) (Due : Message → Type 0) (list : List (Body Message)) → s.cast ≡ None → (k ≡ s.round → (m : Message) → Due m → Contains (items_of_round s.round list) m)
    → AreSent s k Due list → AreSent (with_vote s vote) k Due (list ++ Mark vote ∷ [])
mark_more s vote k Due list uncast due are =
    let same : items_of_round k (list ++ Mark vote ∷ []) ≡ items_of_round k list = round-mark k list vote in
    let none : voted s.round s.cast ≡ s.round = ap (voted s.round) uncast in
    record {
      due = subst (λ (items : List Message). All Due items) (sym same) are.due;
      once = subst (λ (items : List Message). AllPairs (λ m o. m ≢ o) items) (sym same) are.once;
      all = λ h m is. subst (λ (items : List Message). Contains items m) (sym same) (⊎_elim
          (λ now. subst (λ (x : ℕ). Contains (items_of_round x list) m) (sym now) (due now m is))
          (λ apart. are.all (omega (arith, h, none, apart)) m is)
          (cases_eq k s.round));
    }

pub voting_keeps : VotingKeeps
voting_keeps far part handled sent s vote uncast zeros due keeps =
    let was = keeps.counted in
    let more : List (List (Body Message)) = append_others part.rank (Mark vote) sent in
    let none : voted s.round s.cast ≡ s.round = ap (voted s.round) uncast in
    let joined : (r : ℕ) → IsOther part.rank part.ranks r → list_at more r ≡ list_at sent r ++ Mark vote ∷ [] = λ r o.
    list_at-append_others part.rank (Mark vote) sent r (omega (arith, o.0, was.to_each)) o.1 in
    let counted : AreCounted part handled more (with_vote s vote) = record {
      from_each = was.from_each;
      to_each = length-append_others part.rank (Mark vote) sent ∙ was.to_each;
      running = was.running;
      closed = was.closed;
      given = λ r o. omega (arith, ap marks (joined r o), marks-mark (list_at sent r) vote, was.given r o, none);
      zeros = λ r o. subst (λ (l : List (Body Message)). All IsZeros (votes_of l)) (sym (joined r o))
          (subst (λ (x : List Vote). All IsZeros x) (sym (votes-mark (list_at sent r) vote)) (All-push IsZeros (votes_of (list_at sent r)) vote (was.zeros r o) zeros));
      later = λ r k o h. ap (items_of_round k) (joined r o) ∙ (round-mark k (list_at sent r) vote ∙ was.later r k o h);
    } in
    record {
      counted = counted;
      phase = λ p sound. ⊎_elim
          (λ late. later_phase far part handled more (with_vote s vote) p counted.later late)
          (λ begun.
          let is = keeps.phase p sound in
          record {
            up = λ r o. subst (λ (l : List (Body Message)). AreSent (with_vote s vote) (3 * p) (IsBestKeys far part handled p r) l) (sym (joined r o))
                (mark_more s vote (3 * p) (IsBestKeys far part handled p r) (list_at sent r) uncast
                (λ now m want. due (of_round far part handled s.round p (omega arith) sound) r m o (to_up far part handled s.round r p m (sym now) want)) (is.up r o));
            down = λ r o. subst (λ (l : List (Body Message)). AreSent (with_vote s vote) (3 * p + 1) (IsWinners far part handled p) l) (sym (joined r o))
                (mark_more s vote (3 * p + 1) (IsWinners far part handled p) (list_at sent r) uncast
                (λ now m want. due (of_round far part handled s.round p (omega arith) sound) r m o (to_down far part handled s.round r p m (sym now) want)) (is.down r o));
            hooks = λ r o. subst (λ (l : List (Body Message)). AreSent (with_vote s vote) (3 * p + 2) (IsOwnHook far part handled p) l) (sym (joined r o))
                (mark_more s vote (3 * p + 2) (IsOwnHook far part handled p) (list_at sent r) uncast
                (λ now m want. due (of_round far part handled s.round p (omega arith) sound) r m o (to_hook far part handled s.round r p m (sym now) want)) (is.hooks r o));
            labels = is.labels;
            ascending = is.ascending;
            edges = is.edges;
            ended = is.ended;
            going = is.going;
          })
          (cases_lt s.round (3 * p));
    }

-- Marks are no items.
items_each : (k : ℕ) (votes : List Vote) (lists : List (List (Body Message))) → items_in k (append_each votes lists) ≡ items_in k lists
items_each k [] lists = refl
items_each k (v ∷ vs) [] = refl
items_each k (v ∷ vs) (l ∷ ls) = λ i. round-mark k l v i ++ items_each k vs ls i

pub items_marks : (k own : ℕ) (votes : List Vote) (lists : List (List (Body Message))) → items_in k (append_marks own votes lists) ≡ items_in k lists
items_marks k own [] lists = refl
items_marks k own (v ∷ vs) [] = refl
items_marks k zero (v ∷ vs) (l ∷ ls) = ap (λ (x : List Message). items_of_round k l ++ x) (items_each k vs ls)
items_marks k (suc own) (v ∷ vs) (l ∷ ls) = λ i. round-mark k l v i ++ items_marks k own vs ls i

marks_each : (votes : List Vote) (lists : List (List (Body Message))) (r : ℕ) → r < length lists → r < length votes → marks (list_at (append_each votes lists) r) ≡ suc (marks (list_at lists r))
marks_each [] lists r h l = absurd (omega arith)
marks_each (v ∷ vs) [] r h l = absurd (omega arith)
marks_each (v ∷ vs) (list ∷ lists) zero h l = marks-mark list v
marks_each (v ∷ vs) (list ∷ lists) (suc r) h l = marks_each vs lists r (omega arith) (omega arith)

marks_marks : (own : ℕ) (votes : List Vote) (lists : List (List (Body Message))) (r : ℕ) → r < length lists → r < length votes → r ≢ own
    → marks (list_at (append_marks own votes lists) r) ≡ suc (marks (list_at lists r))
marks_marks own [] lists r h l other = absurd (omega arith)
marks_marks own (v ∷ vs) [] r h l other = absurd (omega arith)
marks_marks zero (v ∷ vs) (list ∷ lists) zero h l other = absurd (other refl)
marks_marks zero (v ∷ vs) (list ∷ lists) (suc r) h l other = marks_each vs lists r (omega arith) (omega arith)
marks_marks (suc own) (v ∷ vs) (list ∷ lists) zero h l other = marks-mark list v
marks_marks (suc own) (v ∷ vs) (list ∷ lists) (suc r) h l other = marks_marks own vs lists r (omega arith) (omega arith) (λ e. other (ap suc e))

-- What was sent once the vote is cast is all that is due in the rounds up to this one, also in the next round.
sent_next : (s t : State) (k : ℕ) (Due : Message → Type 0) (list : List (Body Message)) → voted t.round t.cast ≡ voted s.round s.cast → AreSent s k Due list → AreSent t k Due list
sent_next s t k Due list same are = record { due = are.due; once = are.once; all = λ h m is. are.all (omega (arith, h, same)) m is }

-- Nothing was sent yet in a round that has no vote.
none_sent : (t : State) (k : ℕ) (Due : Message → Type 0) (list : List (Body Message)) → items_of_round k list ≡ [] → voted t.round t.cast ≤ k → AreSent t k Due list
none_sent t k Due list none late = record {
  due = subst (λ (items : List Message). All Due items) (sym none) (All-nil Due);
  once = subst (λ (items : List Message). AllPairs (λ m o. m ≢ o) items) (sym none) (λ i j d l h. absurd (omega (arith, h)));
  all = λ h. absurd (omega arith);
}

true_not_false : (b : Bool) → b ≡ false → b ≡ true → ⊥
true_not_false b low high = true≢false (sym high ∙ low)

module _ (far : ℕ) (part : Part) (handled sent : List (List (Body Message))) (s : State) (votes : List Vote) (vote : Vote)
    (each : length votes ≡ part.ranks) (cast : s.cast ≡ Some vote) (running : s.ended ≡ false) (keeps : LocalDense far part handled sent s) where
  abbrev ended_round : List (List (Body Message))
  ended_round = append_marks part.rank votes handled

  same_items : (k : ℕ) → items_in k handled ≡ items_in k ended_round
  same_items k = sym (items_marks k part.rank votes handled)

  was_sound : (p : ℕ) → AreSoundBefore far part ended_round p → AreSoundBefore far part handled p
  was_sound p sound q below = sound_agrees far part ended_round handled q (λ k h. sym (same_items k)) (sound q below)

  marks_now : (r : ℕ) → IsOther part.rank part.ranks r → marks (list_at ended_round r) ≡ suc s.round
  marks_now r o =
      marks_marks part.rank votes handled r (omega (arith, o.0, keeps.counted.from_each)) (omega (arith, o.0, each)) o.1
      ∙ ap suc (keeps.counted.running running r o)

  -- A phase that has begun, over the lists with the marks.
  begun_phase : (p : ℕ) → AreSoundBefore far part ended_round p → 3 * p ≤ s.round → IsPhase far part ended_round sent s p
  begun_phase p sound begun =
      phase_kept far part handled ended_round sent s (s.round + 1) (λ k h. same_items k) (omega arith) (λ e. absurd (true_not_false s.ended running e)) keeps.counted.later p begun
      (keeps.phase p (was_sound p sound))

  voted_now : voted s.round s.cast ≡ s.round + 1
  voted_now = ap (voted s.round) cast

  winner_same : (p l : ℕ) → winner part handled (label_in far part handled p) p l ≡ winner part ended_round (label_in far part ended_round p) p l
  winner_same p l =
      ap (λ (f : ℕ → ℕ). winner part handled f p l) (labels_agree far part handled ended_round p (λ k h. same_items k))
      ∙ ap (λ (w : ℕ → ℕ). w l) (winners_agree far part handled ended_round (label_in far part ended_round p) p (same_items (3 * p)) (same_items (3 * p + 1)))

  no_winner_there : (p : ℕ) → NoWinner far part handled p → NoWinner far part ended_round p
  no_winner_there p none l v = sym (winner_same p l) ∙ none l v

  no_winner_back : (p : ℕ) → NoWinner far part ended_round p → NoWinner far part handled p
  no_winner_back p none l v = winner_same p l ∙ none l v

  phase_there : (p : ℕ) (label : ℕ → ℕ) (edges : List ℕ) → ArePhase far part handled p label edges → ArePhase far part ended_round p label edges
  phase_there p label edges are = record {
    labels = λ v h. are.labels v h ∙ ap (λ (f : ℕ → ℕ). f v) (labels_agree far part handled ended_round p (λ k l. same_items k));
    ascending = are.ascending;
    chosen = λ i. (
      λ c. chosen_agrees far part handled ended_round p i (λ k h. same_items k) ((are.chosen i).0 c),
      λ c. (are.chosen i).1 (chosen_agrees far part ended_round handled p i (λ k h. sym (same_items k)) c),
    );
  }

  pub ending : (AreSoundBefore far part handled (s.round / 3) → (s.round % 3 ≡ 1) × NoWinner far part handled (s.round / 3)) → LocalDense far part ended_round sent (at_end s)
  ending over =
      let was = keeps.counted in
      let counted : AreCounted part ended_round sent (at_end s) = record {
        from_each = length-append_marks part.rank votes handled ∙ was.from_each;
        to_each = was.to_each;
        running = λ e. cc;
        closed = λ e r o. marks_now r o;
        given = was.given;
        zeros = was.zeros;
        later = was.later;
      } in
      record {
        counted = counted;
        phase = λ p sound. ⊎_elim
            (λ late. later_phase far part ended_round sent (at_end s) p counted.later late)
            (λ begun.
            let is = begun_phase p sound begun in
            record {
              up = λ r o. sent_next s (at_end s) (3 * p) (IsBestKeys far part ended_round p r) (list_at sent r) refl (is.up r o);
              down = λ r o. sent_next s (at_end s) (3 * p + 1) (IsWinners far part ended_round p) (list_at sent r) refl (is.down r o);
              hooks = λ r o. sent_next s (at_end s) (3 * p + 2) (IsOwnHook far part ended_round p) (list_at sent r) refl (is.hooks r o);
              labels = is.labels;
              ascending = is.ascending;
              edges = is.edges;
              ended = λ now e.
                  let same : s.round / 3 ≡ p = omega (arith, now.first, now.last) in
                  let last = over (of_round far part handled s.round p (sym same) (was_sound p sound)) in
                  (omega (arith, last.0, same), no_winner_there p (subst (NoWinner far part handled) same last.1));
              going = is.going;
            })
            (cases_lt s.round (3 * p));
      }

  module _ (label : ℕ → ℕ) (edges : List ℕ) (on : AreSoundBefore far part handled (s.round / 3) → s.round % 3 ≡ 1 → NoWinner far part handled (s.round / 3) → ⊥)
      (next : AreSoundBefore far part handled ((s.round + 1) / 3) → ArePhase far part handled ((s.round + 1) / 3) label edges) where
    abbrev after : State
    after = in_next_round s label edges

    later_now : NoneLater part sent after
    later_now r k o h = keeps.counted.later r k o (omega (arith, h))

    next_phase : (p : ℕ) → AreSoundBefore far part ended_round p → IsPresent p after.round → ArePhase far part ended_round p label edges
    next_phase p sound now =
        let same : (s.round + 1) / 3 ≡ p = omega (arith, now.first, now.last) in
        phase_there p label edges (subst (λ (q : ℕ). ArePhase far part handled q label edges) same
        (next (of_round far part handled (s.round + 1) p (sym same) (was_sound p sound))))

    -- A phase that begins with the next round, or one before it.
    phase_on : (p : ℕ) → AreSoundBefore far part ended_round p → 3 * p ≤ s.round + 1 → (s.round < 3 * p) ⊎ (3 * p ≤ s.round) → IsPhase far part ended_round sent after p
    phase_on p sound here (inl first) = record {
      up = λ r o. none_sent after (3 * p) (IsBestKeys far part ended_round p r) (list_at sent r) (keeps.counted.later r (3 * p) o first) (omega arith);
      down = λ r o. later_sent part sent after (3 * p + 1) (IsWinners far part ended_round p) r later_now o (omega arith);
      hooks = λ r o. later_sent part sent after (3 * p + 2) (IsOwnHook far part ended_round p) r later_now o (omega arith);
      labels = λ now. (next_phase p sound now).labels;
      ascending = λ now. (next_phase p sound now).ascending;
      edges = λ now. (next_phase p sound now).chosen;
      ended = λ now e. cc;
      going = λ h. absurd (omega arith);
    }
    phase_on p sound here (inr begun) =
        let is = begun_phase p sound begun in
        record {
          up = λ r o. sent_next s after (3 * p) (IsBestKeys far part ended_round p r) (list_at sent r) (sym voted_now) (is.up r o);
          down = λ r o. sent_next s after (3 * p + 1) (IsWinners far part ended_round p) (list_at sent r) (sym voted_now) (is.down r o);
          hooks = λ r o. sent_next s after (3 * p + 2) (IsOwnHook far part ended_round p) (list_at sent r) (sym voted_now) (is.hooks r o);
          labels = λ now. (next_phase p sound now).labels;
          ascending = λ now. (next_phase p sound now).ascending;
          edges = λ now. (next_phase p sound now).chosen;
          ended = λ now e. cc;
          going = λ h none. ⊎_elim
              (λ before. is.going before none)
              (λ at.
              let round : s.round ≡ 3 * p + 1 = omega (arith, h, at) in
              let same : s.round / 3 ≡ p = omega (arith, round) in
              on (of_round far part handled s.round p (sym same) (was_sound p sound)) (omega (arith, round)) (subst (NoWinner far part handled) (sym same) (no_winner_back p none)))
              (cases_lt (3 * p + 1) s.round);
        }

    pub going_on : LocalDense far part ended_round sent after
    going_on =
        let was = keeps.counted in
        record {
          counted = record {
            from_each = length-append_marks part.rank votes handled ∙ was.from_each;
            to_each = was.to_each;
            running = λ e r o. omega (arith, marks_now r o);
            closed = λ e. cc;
            given = λ r o. was.given r o ∙ voted_now;
            zeros = was.zeros;
            later = later_now;
          };
          phase = λ p sound. ⊎_elim
              (λ late. later_phase far part ended_round sent after p later_now late)
              (λ here. phase_on p sound here (cases_lt s.round (3 * p)))
              (cases_lt (s.round + 1) (3 * p));
        }

pub going_on_keeps : GoingOnKeeps
going_on_keeps far part handled sent s votes vote label edges each cast running on next keeps =
    going_on far part handled sent s votes vote each cast running keeps label edges on next

pub ending_keeps : EndingKeeps
ending_keeps far part handled sent s votes vote each cast running over keeps =
    ending far part handled sent s votes vote each cast running keeps over
