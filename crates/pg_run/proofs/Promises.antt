-- What each step of a runner does to the promise that it keeps.
use Rattle.std.proofs.Common.{◌≡◌, ℕ, suc, ◌+◌, ◌<◌, ◌≤◌, Bool, true, false, List, [], ◌∷◌, ◌++◌, length, map, set, refl, sym, ap, ◌∙◌, subst, arith, length-append, inl, inr, ⊎_elim, ◌⊎◌}
use borrow.Author.Count.{below_more}
use Rattle.pg_run.proofs.Either.{either_set, first_clear, second_clear}
use Rattle.std.specs.Prelude.{◌||◌, Option, Some, None, is_some, if◌then◌else◌}
use Rattle.pg_group.specs.declared.messages.Body.{Body}
use Rattle.pg_group.specs.declared.messages.Body.TheVariants.{Item, Mark}
use Rattle.pg_group.specs.declared.messages.Vote.{Vote}
use Rattle.pg_group.specs.declared.programs.Program.{Ghosts as ProgramGhosts}
use Rattle.pg_group.specs.declared.outboxes.Outbox.{Ghosts as OutboxGhosts}
use Rattle.pg_group.specs.declared.mailboxes.Mailbox.{Ghosts as MailboxGhosts}
use Rattle.pg_group.specs.Ranked.{IsOther, append_at, list_at, flag_at, all_clear, AllSet}
use Rattle.pg_group.specs.Rounds.{ends_with_mark, votes_of}
use Rattle.pg_group.specs.Supersteps.{append_others, append_marks, AreUnmarked}
use Rattle.pg_run.specs.Steps.{Rests, SameLists, SawEmpty, SawFull, NothingCame, NoRoom, HasVoted, DidNoItem, Event, Moved}
use Rattle.pg_run.specs.Turns.{IsWaiting}
use Rattle.pg_run.specs.Rounds.{IsTaken, IsSent}
use Rattle.pg_run.specs.Kept.{IsRunning, IsOver, Follows}
use Rattle.pg_run.specs.declared.runners.Runner.{Runner}
use Rattle.pg_run.proofs.Steps.{take_item, take_mark, round_taken, marks_taken, next_taken, all_sent, send_items, promise_marks, send_mark, round_sent, next_sent, own_vote}

module _ {B : Type 0} where
  same_taken : (own own' size size' rounds : ℕ) (votes votes' : List Vote) (closed closed' : List Bool) (taken taken' handled : List (List (Body B))) → own' ≡ own → size' ≡ size → votes' ≡ votes → closed' ≡ closed → taken' ≡ taken
      → IsTaken own size rounds votes closed taken handled → IsTaken own' size' rounds votes' closed' taken' handled
  same_taken own own' size size' rounds votes votes' closed closed' taken taken' handled a b c d e t =
      subst (λ o. IsTaken o size' rounds votes' closed' taken' handled) (sym a) (subst (λ n. IsTaken own n rounds votes' closed' taken' handled) (sym b)
      (subst (λ v. IsTaken own size rounds v closed' taken' handled) (sym c) (subst (λ f. IsTaken own size rounds votes f taken' handled) (sym d) (subst (λ l. IsTaken own size rounds votes closed l handled) (sym e) t))))

  same_sent : (own own' size size' : ℕ) (ballots : List Vote) (vote vote' : Option Vote) (marked marked' : List Bool) (sent sent' promised : List (List (Body B))) → own' ≡ own → size' ≡ size → vote' ≡ vote → marked' ≡ marked → sent' ≡ sent
      → IsSent own size ballots vote marked sent promised → IsSent own' size' ballots vote' marked' sent' promised
  same_sent own own' size size' ballots vote vote' marked marked' sent sent' promised a b c d e t =
      subst (λ o. IsSent o size' ballots vote' marked' sent' promised) (sym a) (subst (λ n. IsSent own n ballots vote' marked' sent' promised) (sym b)
      (subst (λ v. IsSent own size ballots v marked' sent' promised) (sym c) (subst (λ f. IsSent own size ballots vote f sent' promised) (sym d) (subst (λ l. IsSent own size ballots vote marked l promised) (sym e) t))))

same_count : (n rounds : ℕ) (vote vote' : Option Vote) → vote' ≡ vote → n ≡ (if is_some vote then suc rounds else rounds) → n ≡ (if is_some vote' then suc rounds else rounds)
same_count n rounds vote vote' e h = h ∙ ap (λ v. if is_some v then suc rounds else rounds) (sym e)

module _ {P B : Type 0} (p : ProgramGhosts P B) (start now new : P) (votes votes' : List Vote) (sent sent' : List (List (Body B))) (marked marked' : List Bool) (taken taken' : List (List (Body B))) (closed closed' : List Bool)
    (own : p.own new ≡ p.own now) (size : p.size new ≡ p.size now) where
  -- an item was taken and handled
  pub handled_item : (k : ℕ) (x : B) → IsOther (p.own now) (p.size now) k → flag_at closed k ≡ false
      → ((handled done : List (List (Body B))) → p.Keeps start handled done now → p.Keeps start (append_at handled k (Item x)) done new)
      → p.cast new ≡ p.cast now → votes' ≡ votes → sent' ≡ sent → marked' ≡ marked → taken' ≡ append_at taken k (Item x) → closed' ≡ closed
      → IsRunning p start now votes sent marked taken closed → IsRunning p start new votes' sent' marked' taken' closed'
  handled_item k x other clear keeps cast same_votes same_sends same_marks more same_closed r = record {
    handled = append_at r.handled k (Item x);
    promised = r.promised;
    rounds = r.rounds;
    ballots = r.ballots;
    keeps = keeps r.handled r.promised r.keeps;
    counted = same_count (length r.ballots) r.rounds _ _ cast r.counted;
    is_taken = same_taken _ _ _ _ r.rounds _ _ _ _ _ _ _ own size same_votes same_closed more (take_item (p.own now) (p.size now) r.rounds votes closed taken r.handled k x other clear r.is_taken);
    is_sent = same_sent _ _ _ _ r.ballots _ _ _ _ _ _ _ own size cast same_marks same_sends r.is_sent;
  }

  -- a mark was taken and noted
  pub noted_mark : (k : ℕ) (v : Vote) → new ≡ now → IsOther (p.own now) (p.size now) k → flag_at closed k ≡ false → length votes ≡ p.size now
      → votes' ≡ set votes k v → sent' ≡ sent → marked' ≡ marked → taken' ≡ append_at taken k (Mark v) → closed' ≡ set closed k true
      → IsRunning p start now votes sent marked taken closed → IsRunning p start new votes' sent' marked' taken' closed'
  noted_mark k v same other clear long more_votes same_sends same_marks more more_closed r = record {
    handled = r.handled;
    promised = r.promised;
    rounds = r.rounds;
    ballots = r.ballots;
    keeps = subst (p.Keeps start r.handled r.promised) (sym same) r.keeps;
    counted = same_count (length r.ballots) r.rounds _ _ (ap p.cast same) r.counted;
    is_taken = same_taken _ _ _ _ r.rounds _ _ _ _ _ _ _ own size more_votes more_closed more (take_mark (p.own now) (p.size now) r.rounds votes closed taken r.handled k v other clear long r.is_taken);
    is_sent = same_sent _ _ _ _ r.ballots _ _ _ _ _ _ _ own size (ap p.cast same) same_marks same_sends r.is_sent;
  }

  -- the program worked
  pub worked : p.cast now ≡ None → p.cast new ≡ None → AreUnmarked marked → ((handled : List (List (Body B))) → p.Keeps start handled sent now → p.Keeps start handled sent' new)
      → map votes_of sent' ≡ map votes_of sent → list_at sent' (p.own now) ≡ list_at sent (p.own now)
      → votes' ≡ votes → marked' ≡ marked → taken' ≡ taken → closed' ≡ closed
      → IsRunning p start now votes sent marked taken closed → IsRunning p start new votes' sent' marked' taken' closed'
  worked none none' clear keeps same_ballots mine same_votes same_marks same_takes same_closed r =
      let all = all_sent (p.own now) (p.size now) r.ballots (p.cast now) marked sent r.promised none r.is_sent in
      record {
        handled = r.handled;
        promised = sent';
        rounds = r.rounds;
        ballots = r.ballots;
        keeps = keeps r.handled (subst (λ l. p.Keeps start r.handled l now) all r.keeps);
        counted = same_count (length r.ballots) r.rounds _ _ (none' ∙ sym none) r.counted;
        is_taken = same_taken _ _ _ _ r.rounds _ _ _ _ _ _ _ own size same_votes same_closed same_takes r.is_taken;
        is_sent = same_sent _ _ _ _ r.ballots _ _ _ _ _ _ _ own size refl same_marks refl (send_items (p.own now) (p.size now) r.ballots (p.cast now) (p.cast new) marked sent sent' r.promised none none' clear same_ballots mine r.is_sent);
      }

  -- the vote was cast
  pub voted : (v : Vote) → p.cast now ≡ None → p.cast new ≡ Some v → AreUnmarked marked
      → ((handled done : List (List (Body B))) → p.Keeps start handled done now → p.Keeps start handled (append_others (p.own now) (Mark v) done) new)
      → votes' ≡ set votes (p.own now) v → sent' ≡ sent → marked' ≡ marked → taken' ≡ taken → closed' ≡ closed
      → IsRunning p start now votes sent marked taken closed → IsRunning p start new votes' sent' marked' taken' closed'
  voted v none some clear keeps more_votes same_sends same_marks same_takes same_closed r =
      let before = r.counted ∙ ap (λ c. if is_some c then suc r.rounds else r.rounds) none in
      let after : (if is_some (p.cast new) then suc r.rounds else r.rounds) ≡ suc r.rounds = ap (λ c. if is_some c then suc r.rounds else r.rounds) some in
      let long : length (r.ballots ++ v ∷ []) ≡ length r.ballots + 1 = length-append r.ballots (v ∷ []) in
      let next : length (r.ballots ++ v ∷ []) ≡ suc r.rounds = omega arith in
      record {
        handled = r.handled;
        promised = append_others (p.own now) (Mark v) r.promised;
        rounds = r.rounds;
        ballots = r.ballots ++ v ∷ [];
        keeps = keeps r.handled r.promised r.keeps;
        counted = next ∙ sym after;
        is_taken = same_taken _ _ _ _ r.rounds _ _ _ _ _ _ _ own size more_votes same_closed same_takes (own_vote (p.own now) (p.size now) r.rounds votes closed taken r.handled v r.is_taken);
        is_sent = same_sent _ _ _ _ (r.ballots ++ v ∷ []) _ _ _ _ _ _ _ own size refl same_marks same_sends (promise_marks (p.own now) (p.size now) r.ballots (p.cast now) (p.cast new) marked sent r.promised v none some clear r.is_sent);
      }

  -- a mark was sent
  pub sent_mark : (k : ℕ) (v : Vote) → new ≡ now → p.cast now ≡ Some v → IsOther (p.own now) (p.size now) k → flag_at marked k ≡ false
      → votes' ≡ votes → sent' ≡ append_at sent k (Mark v) → marked' ≡ set marked k true → taken' ≡ taken → closed' ≡ closed
      → IsRunning p start now votes sent marked taken closed → IsRunning p start new votes' sent' marked' taken' closed'
  sent_mark k v same some other clear same_votes more more_marks same_takes same_closed r = record {
    handled = r.handled;
    promised = r.promised;
    rounds = r.rounds;
    ballots = r.ballots;
    keeps = subst (p.Keeps start r.handled r.promised) (sym same) r.keeps;
    counted = same_count (length r.ballots) r.rounds _ _ (ap p.cast same) r.counted;
    is_taken = same_taken _ _ _ _ r.rounds _ _ _ _ _ _ _ own size same_votes same_closed same_takes r.is_taken;
    is_sent = same_sent _ _ _ _ r.ballots _ _ _ _ _ _ _ own size (ap p.cast same) more_marks more (send_mark (p.own now) (p.size now) r.ballots (p.cast now) marked sent r.promised k v some other clear r.is_sent);
  }

  -- nothing but what the port remembers of its moments changed
  pub unchanged : new ≡ now → votes' ≡ votes → sent' ≡ sent → marked' ≡ marked → taken' ≡ taken → closed' ≡ closed
      → IsRunning p start now votes sent marked taken closed → IsRunning p start new votes' sent' marked' taken' closed'
  unchanged same same_votes same_sends same_marks same_takes same_closed r = record {
    handled = r.handled;
    promised = r.promised;
    rounds = r.rounds;
    ballots = r.ballots;
    keeps = subst (p.Keeps start r.handled r.promised) (sym same) r.keeps;
    counted = same_count (length r.ballots) r.rounds _ _ (ap p.cast same) r.counted;
    is_taken = same_taken _ _ _ _ r.rounds _ _ _ _ _ _ _ own size same_votes same_closed same_takes r.is_taken;
    is_sent = same_sent _ _ _ _ r.ballots _ _ _ _ _ _ _ own size (ap p.cast same) same_marks same_sends r.is_sent;
  }

  -- the round ended, with another one to follow
  pub round_over : (v : Vote) → p.cast now ≡ Some v → p.cast new ≡ None → length votes ≡ p.size now → AllSet (p.own now) (p.size now) marked → AllSet (p.own now) (p.size now) closed
      → ((handled done : List (List (Body B))) → p.Keeps start handled done now → p.Keeps start (append_marks (p.own now) votes handled) done new)
      → votes' ≡ votes → sent' ≡ sent → marked' ≡ all_clear marked → taken' ≡ taken → closed' ≡ all_clear closed
      → IsRunning p start now votes sent marked taken closed → IsRunning p start new votes' sent' marked' taken' closed'
  round_over v some none long all_marked all_closed keeps same_votes same_sends clear_marks same_takes clear_closed r =
      let ready = keeps r.handled r.promised r.keeps in
      let takes : append_marks (p.own now) votes r.handled ≡ taken' = round_taken (p.own now) (p.size now) r.rounds votes closed taken r.handled all_closed long r.is_taken ∙ sym same_takes in
      let sends : r.promised ≡ sent' = round_sent (p.own now) (p.size now) r.ballots (p.cast now) marked sent r.promised all_marked r.is_sent ∙ sym same_sends in
      let before : length r.ballots ≡ suc r.rounds = r.counted ∙ ap (λ c. if is_some c then suc r.rounds else r.rounds) some in
      let after : (if is_some (p.cast new) then suc (suc r.rounds) else suc r.rounds) ≡ suc r.rounds = ap (λ c. if is_some c then suc (suc r.rounds) else suc r.rounds) none in
      record {
        handled = taken';
        promised = sent';
        rounds = suc r.rounds;
        ballots = r.ballots;
        keeps = subst (λ l. p.Keeps start l sent' new) takes (subst (λ l. p.Keeps start (append_marks (p.own now) votes r.handled) l new) sends ready);
        counted = before ∙ sym after;
        is_taken = subst (λ h. IsTaken (p.own new) (p.size new) (suc r.rounds) votes' closed' taken' h) (sym same_takes) (same_taken _ _ _ _ (suc r.rounds) _ _ _ _ _ _ _ own size same_votes clear_closed same_takes (next_taken (p.own now) (p.size now) r.rounds votes closed taken r.handled all_closed long r.is_taken));
        is_sent = subst (λ h. IsSent (p.own new) (p.size new) r.ballots (p.cast new) marked' sent' h) (sym same_sends) (same_sent _ _ _ _ r.ballots _ _ _ _ _ _ _ own size refl clear_marks same_sends (next_sent (p.own now) (p.size now) r.ballots (p.cast now) (p.cast new) marked sent r.promised none all_marked r.is_sent));
      }

  -- the last round ended
  pub run_over : (v : Vote) → p.cast now ≡ Some v → length votes ≡ p.size now → AllSet (p.own now) (p.size now) marked → AllSet (p.own now) (p.size now) closed
      → ((handled done : List (List (Body B))) → p.Keeps start handled done now → p.Keeps start (append_marks (p.own now) votes handled) done new)
      → sent' ≡ sent → taken' ≡ taken
      → IsRunning p start now votes sent marked taken closed → IsOver p start new sent' taken'
  run_over v some long all_marked all_closed keeps same_sends same_takes r =
      let ready = keeps r.handled r.promised r.keeps in
      let takes : append_marks (p.own now) votes r.handled ≡ taken' = round_taken (p.own now) (p.size now) r.rounds votes closed taken r.handled all_closed long r.is_taken ∙ sym same_takes in
      let sends : r.promised ≡ sent' = round_sent (p.own now) (p.size now) r.ballots (p.cast now) marked sent r.promised all_marked r.is_sent ∙ sym same_sends in
      let before : length r.ballots ≡ suc r.rounds = r.counted ∙ ap (λ c. if is_some c then suc r.rounds else r.rounds) some in
      let other : (rank : ℕ) → IsOther (p.own new) (p.size new) rank → IsOther (p.own now) (p.size now) rank = λ rank o. subst (λ w. IsOther w (p.size now) rank) own (subst (λ n. IsOther (p.own new) n rank) size o) in
      record {
        rounds = r.rounds;
        ballots = r.ballots;
        keeps = subst (λ l. p.Keeps start l sent' new) takes (subst (λ l. p.Keeps start (append_marks (p.own now) votes r.handled) l new) sends ready);
        counted = before;
        ranks_taken = ap length same_takes ∙ r.is_taken.ranks_taken ∙ sym size;
        ranks_sent = ap length same_sends ∙ r.is_sent.ranks_sent ∙ sym size;
        own_taken = ap (list_at taken') own ∙ ap (λ l. list_at l (p.own now)) same_takes ∙ r.is_taken.own_taken;
        own_sent = ap (list_at sent') own ∙ ap (λ l. list_at l (p.own now)) same_sends ∙ r.is_sent.own_sent;
        rounds_taken = λ rank o. ap (λ l. length (votes_of (list_at l rank))) same_takes ∙ marks_taken (p.own now) (p.size now) r.rounds votes closed taken r.handled all_closed long r.is_taken rank (other rank o);
        votes_sent = λ rank o. ap (λ l. votes_of (list_at l rank)) (sym sends) ∙ r.is_sent.votes_promised rank (other rank o);
        last = λ rank o. ap (λ l. ends_with_mark (list_at l rank)) same_sends ∙ r.is_sent.last rank (other rank o) (all_marked rank (other rank o));
      }

pub other_along : (own own' size size' rank : ℕ) → own' ≡ own → size' ≡ size → IsOther own size rank → IsOther own' size' rank
other_along own own' size size' rank e f other = subst (λ w. IsOther w size' rank) (sym e) (subst (λ n. IsOther own n rank) (sym f) other)

module _ {P M B : Type 0} {p : ProgramGhosts P B} {m : MailboxGhosts M B} {o : OutboxGhosts M B} where
  -- what a step keeps beside the promise
  pub record Beside (old new : Runner P M B p m o) : Type 0 where
    pub opening : new.opening.value ≡ old.opening.value
    pub own : p.own new.program ≡ p.own old.program
    pub size : p.size new.program ≡ p.size old.program
    pub wiring : m.wiring new.outlet.port ≡ m.wiring old.outlet.port
    pub later : o.Later old.outlet.port new.outlet.port
    pub rounds : p.round old.program ≤ p.round new.program

  -- a step of a round of a runner
  pub goes_on : (old new : Runner P M B p m o) → Beside old new → old.done ≡ false → new.done ≡ false
      → (IsRunning p old.opening.value old.program old.votes.items (o.sent old.outlet.port) (o.marks_sent old.outlet.port) (m.taken old.outlet.port) (m.marks_taken old.outlet.port)
      → IsRunning p old.opening.value new.program new.votes.items (o.sent new.outlet.port) (o.marks_sent new.outlet.port) (m.taken new.outlet.port) (m.marks_taken new.outlet.port))
      → Follows old new
  goes_on old new b old_runs new_runs step = record {
    opening = b.opening;
    own = b.own;
    size = b.size;
    wiring = b.wiring;
    later = b.later;
    rounds = b.rounds;
    ends = λ e. absurd (cc);
    kept = λ k. record {
      running = λ d. subst (λ s. IsRunning p s new.program new.votes.items (o.sent new.outlet.port) (o.marks_sent new.outlet.port) (m.taken new.outlet.port) (m.marks_taken new.outlet.port)) (sym b.opening) (step (k.running old_runs));
      over = λ d. absurd (cc);
    };
  }

  -- the step that ends the last round
  pub stops : (old new : Runner P M B p m o) → Beside old new → old.done ≡ false → new.done ≡ true
      → (IsRunning p old.opening.value old.program old.votes.items (o.sent old.outlet.port) (o.marks_sent old.outlet.port) (m.taken old.outlet.port) (m.marks_taken old.outlet.port)
      → IsOver p old.opening.value new.program (o.sent new.outlet.port) (m.taken new.outlet.port))
      → Follows old new
  stops old new b old_runs over step = record {
    opening = b.opening;
    own = b.own;
    size = b.size;
    wiring = b.wiring;
    later = b.later;
    rounds = b.rounds;
    ends = λ e. over;
    kept = λ k. record {
      running = λ d. absurd (cc);
      over = λ d. subst (λ s. IsOver p s new.program (o.sent new.outlet.port) (m.taken new.outlet.port)) (sym b.opening) (step (k.running old_runs));
    };
  }

  pub rests_refl : (r : Runner P M B p m o) → Rests r r
  rests_refl r = record { program = refl; sent = refl; marks_sent = refl; taken = refl; marks_taken = refl }

  pub rests_trans : (a b c : Runner P M B p m o) → Rests a b → Rests b c → Rests a c
  rests_trans a b c f g = record {
    program = g.program ∙ f.program;
    sent = g.sent ∙ f.sent;
    marks_sent = g.marks_sent ∙ f.marks_sent;
    taken = g.taken ∙ f.taken;
    marks_taken = g.marks_taken ∙ f.marks_taken;
  }

  pub all_rest : (a b c : Runner P M B p m o) (x y : Bool) → (x ≡ false → Rests a b) → (y ≡ false → Rests b c) → (x || y) ≡ false → Rests a c
  all_rest a b c x y before now is = rests_trans a b c (before (first_clear x y is)) (now (second_clear x y is))

  pub rests_same : (a b : Runner P M B p m o) → b ≡ a → Rests a b
  rests_same a b e = subst (Rests a) (sym e) (rests_refl a)

  lists_then : (a b c d : Runner P M B p m o) → Rests a b → SameLists b c → Rests c d → SameLists a d
  lists_then a b c d r s t = record {
    own = ap p.own t.program ∙ s.own ∙ ap p.own r.program;
    size = ap p.size t.program ∙ s.size ∙ ap p.size r.program;
    round = ap p.round t.program ∙ s.round ∙ ap p.round r.program;
    sent = t.sent ∙ s.sent ∙ r.sent;
    marks_sent = t.marks_sent ∙ s.marks_sent ∙ r.marks_sent;
    taken = t.taken ∙ s.taken ∙ r.taken;
    marks_taken = t.marks_taken ∙ s.marks_taken ∙ r.marks_taken;
  }

  none_done : (a b c d : Runner P M B p m o) → Rests a b → DidNoItem b c → Rests c d → DidNoItem a d
  none_done a b c d r (inl e) t = inl (t.program ∙ e ∙ r.program)
  none_done a b c d r (inr (inl e)) t = inr (inl (subst (λ x. p.DidNothing x d.program) r.program (subst (p.DidNothing b.program) (sym t.program) e)))
  none_done a b c d r (inr (inr e)) t = inr (inr (e.0, subst (λ x. p.DidNothing x e.0) r.program e.1, subst (HasVoted p e.0) (sym t.program) e.2))

  empty_until : (a b c : Runner P M B p m o) (rank : ℕ) → c.outlet.port ≡ b.outlet.port → NothingCame a b rank → NothingCame a c rank
  empty_until a b c rank same (inl e) = inl e
  empty_until a b c rank same (inr e) = inr (record {
    before = e.before;
    after = e.after;
    begun = e.begun;
    seen = e.seen;
    ended = subst (o.Later e.after) (sym same) e.ended;
    taken_before = e.taken_before;
    taken_after = e.taken_after;
  })

  full_until : (a b c : Runner P M B p m o) (rank : ℕ) → c.outlet.port ≡ b.outlet.port → SawFull a b rank → SawFull a c rank
  full_until a b c rank same e = record {
    before = e.before;
    after = e.after;
    begun = e.begun;
    seen = e.seen;
    ended = subst (o.Later e.after) (sym same) e.ended;
    sent_before = e.sent_before;
    sent_after = e.sent_after;
  }

  room_until : (a b c : Runner P M B p m o) (rank : ℕ) → c.outlet.port ≡ b.outlet.port → NoRoom a b rank → NoRoom a c rank
  room_until a b c rank same (inl e) = inl e
  room_until a b c rank same (inr e) = inr (full_until a b c rank same e)

  abbrev Held : Runner P M B p m o → Runner P M B p m o → Type 0
  Held old new = ((new.voted ≡ true) × ((rank : ℕ) → IsOther (p.own old.program) (p.size old.program) rank → NoRoom old new rank))
      ⊎ ((to : ℕ) × IsOther (p.own old.program) (p.size old.program) to × SawFull old new to)

  held_until : (a b c : Runner P M B p m o) → c.outlet.port ≡ b.outlet.port → c.voted ≡ b.voted → Held a b → Held a c
  held_until a b c same vote (inl h) = inl (vote ∙ h.0, λ rank other. room_until a b c rank same (h.1 rank other))
  held_until a b c same vote (inr h) = inr (h.0, h.1, full_until a b c h.0 same h.2)

  -- the number of the turn is no part of what was waited for
  pub waits_until : (a b c : Runner P M B p m o) → c.program ≡ b.program → c.outlet.port ≡ b.outlet.port → c.voted ≡ b.voted → IsWaiting a b → IsWaiting a c
  waits_until a b c program same vote w = record {
    same = record {
      own = ap p.own program ∙ w.same.own;
      size = ap p.size program ∙ w.same.size;
      round = ap p.round program ∙ w.same.round;
      sent = ap o.sent same ∙ w.same.sent;
      marks_sent = ap o.marks_sent same ∙ w.same.marks_sent;
      taken = ap m.taken same ∙ w.same.taken;
      marks_taken = ap m.marks_taken same ∙ w.same.marks_taken;
    };
    no_item = none_done a a b c (rests_refl a) w.no_item (record { program = program; sent = ap o.sent same; marks_sent = ap o.marks_sent same; taken = ap m.taken same; marks_taken = ap m.marks_taken same });
    nothing = λ rank other. empty_until a b c rank same (w.nothing rank other);
    held = held_until a b c same vote w.held;
  }

  pub moves_refl : (r : Runner P M B p m o) → o.Later r.outlet.port r.outlet.port → Follows r r
  moves_refl r same = record { opening = refl; own = refl; size = refl; wiring = refl; later = same; rounds = omega arith; ends = λ e. e; kept = λ k. k }

-- The same where what a port may have become is a preorder.
module _ {P M B : Type 0} {p : ProgramGhosts P B} {m : MailboxGhosts M B} {o : OutboxGhosts M B} (same_port : (x : M) → o.Later x x) (on : (x y z : M) → o.Later x y → o.Later y z → o.Later x z) where
  pub follows_refl : (r : Runner P M B p m o) → Follows r r
  follows_refl r = moves_refl r (same_port r.outlet.port)

  pub follows_trans : (a b c : Runner P M B p m o) → Follows a b → Follows b c → Follows a c
  follows_trans a b c f g = record {
    opening = g.opening ∙ f.opening;
    own = g.own ∙ f.own;
    size = g.size ∙ f.size;
    wiring = g.wiring ∙ f.wiring;
    later = on a.outlet.port b.outlet.port c.outlet.port f.later g.later;
    rounds = omega (arith, f.rounds, g.rounds);
    ends = λ e. g.ends (f.ends e);
    kept = λ k. g.kept (f.kept k);
  }

  -- what was seen in a part of a time in which nothing was taken was seen in all of it
  empty_within : (a b c d : Runner P M B p m o) (rank : ℕ) → o.Later a.outlet.port b.outlet.port → m.taken b.outlet.port ≡ m.taken a.outlet.port → o.Later c.outlet.port d.outlet.port → SawEmpty b c rank → SawEmpty a d rank
  empty_within a b c d rank first same last e = record {
    before = e.before;
    after = e.after;
    begun = on a.outlet.port b.outlet.port e.before first e.begun;
    seen = e.seen;
    ended = on e.after c.outlet.port d.outlet.port e.ended last;
    taken_before = e.taken_before ∙ same;
    taken_after = e.taken_after ∙ same;
  }

  full_within : (a b c d : Runner P M B p m o) (rank : ℕ) → o.Later a.outlet.port b.outlet.port → o.sent b.outlet.port ≡ o.sent a.outlet.port → o.Later c.outlet.port d.outlet.port → SawFull b c rank → SawFull a d rank
  full_within a b c d rank first same last e = record {
    before = e.before;
    after = e.after;
    begun = on a.outlet.port b.outlet.port e.before first e.begun;
    seen = e.seen;
    ended = on e.after c.outlet.port d.outlet.port e.ended last;
    sent_before = e.sent_before ∙ same;
    sent_after = e.sent_after ∙ same;
  }

  came_within : (a b c d : Runner P M B p m o) (rank : ℕ) → Rests a b → o.Later a.outlet.port b.outlet.port → o.Later c.outlet.port d.outlet.port → NothingCame b c rank → NothingCame a d rank
  came_within a b c d rank r first last (inl e) = inl (ap (λ f. flag_at f rank) (sym r.marks_taken) ∙ e)
  came_within a b c d rank r first last (inr e) = inr (empty_within a b c d rank first r.taken last e)

  room_within : (a b c d : Runner P M B p m o) (rank : ℕ) → o.sent b.outlet.port ≡ o.sent a.outlet.port → o.marks_sent b.outlet.port ≡ o.marks_sent a.outlet.port
      → o.Later a.outlet.port b.outlet.port → o.Later c.outlet.port d.outlet.port → NoRoom b c rank → NoRoom a d rank
  room_within a b c d rank same marks first last (inl e) = inl (ap (λ f. flag_at f rank) (sym marks) ∙ e)
  room_within a b c d rank same marks first last (inr e) = inr (full_within a b c d rank first same last e)

  pub moves_then : (a b c : Runner P M B p m o) → Moved a b → Follows b c → Moved a c
  moves_then a b c w f = (w.0, w.1, w.2, w.3, follows_trans w.1 b c w.4 f)

  pub then_moves : (a b c : Runner P M B p m o) → Follows a b → Moved b c → Moved a c
  then_moves a b c f w = (w.0, w.1, follows_trans a b w.0 f w.2, w.3, w.4)

  -- a step that is itself an event
  pub moves : (a b : Runner P M B p m o) → Follows a b → Event a b → Moved a b
  moves a b f e = (a, b, follows_refl a, e, follows_refl b)

  -- one rank more, of a loop over the ranks that notes whether anything moved
  pub any_moves : (a b c : Runner P M B p m o) (x y : Bool) → Follows a b → Follows b c → (x ≡ true → Moved a b) → (y ≡ true → Moved b c) → (x || y) ≡ true → Moved a c
  any_moves a b c x y f g before now is = ⊎_elim (λ e. moves_then a b c (before e) g) (λ e. then_moves a b c f (now e)) (either_set x y is)

  pub none_came : (a b c : Runner P M B p m o) (n : ℕ) (x y : Bool) → Follows a b → Follows b c → (x ≡ false → Rests a b)
      → (x ≡ false → (k : ℕ) → k < n → IsOther (p.own a.program) (p.size a.program) k → NothingCame a b k)
      → (y ≡ false → IsOther (p.own b.program) (p.size b.program) n → NothingCame b c n)
      → (x || y) ≡ false → (k : ℕ) → k < n + 1 → IsOther (p.own a.program) (p.size a.program) k → NothingCame a c k
  none_came a b c n x y f g rests before now is =
      let first = first_clear x y is in
      below_more (λ k. IsOther (p.own a.program) (p.size a.program) k → NothingCame a c k) n
      (λ k h other. came_within a a b c k (rests_refl a) (same_port a.outlet.port) g.later (before first k h other))
      (λ other. came_within a b c c n (rests first) f.later (same_port c.outlet.port) (now (second_clear x y is) (other_along _ _ _ _ n f.own f.size other)))

  pub none_had_room : (a b c : Runner P M B p m o) (n : ℕ) (x y : Bool) → Follows a b → Follows b c → (x ≡ false → Rests a b)
      → (x ≡ false → (k : ℕ) → k < n → IsOther (p.own a.program) (p.size a.program) k → NoRoom a b k)
      → (y ≡ false → IsOther (p.own b.program) (p.size b.program) n → NoRoom b c n)
      → (x || y) ≡ false → (k : ℕ) → k < n + 1 → IsOther (p.own a.program) (p.size a.program) k → NoRoom a c k
  none_had_room a b c n x y f g rests before now is =
      let first = first_clear x y is in
      below_more (λ k. IsOther (p.own a.program) (p.size a.program) k → NoRoom a c k) n
      (λ k h other. room_within a a b c k refl refl (same_port a.outlet.port) g.later (before first k h other))
      (λ other. room_within a b c c n (rests first).sent (rests first).marks_sent f.later (same_port c.outlet.port) (now (second_clear x y is) (other_along _ _ _ _ n f.own f.size other)))

  -- no mark found room before the round was looked at for its end
  pub room_then : (a b c : Runner P M B p m o) (rank : ℕ) → Follows b c → NoRoom a b rank → NoRoom a c rank
  room_then a b c rank g e = room_within a a b c rank refl refl (same_port a.outlet.port) g.later e

  -- nothing came, no item was done, and no mark was sent
  pub waits : (a b c d : Runner P M B p m o) → Follows a b → Follows b c → Follows c d → Rests a b → ((rank : ℕ) → IsOther (p.own a.program) (p.size a.program) rank → NothingCame a b rank)
      → SameLists b c → DidNoItem b c → (c.voted ≡ true) ⊎ ((to : ℕ) × IsOther (p.own b.program) (p.size b.program) to × SawFull b c to)
      → Rests c d → d.voted ≡ c.voted → (c.voted ≡ true → (rank : ℕ) → IsOther (p.own c.program) (p.size c.program) rank → NoRoom c d rank) → IsWaiting a d
  waits a b c d ab bc cd r nothing s none (inl cast) t same room = record {
    same = lists_then a b c d r s t;
    no_item = none_done a b c d r none t;
    nothing = λ rank other. came_within a a b d rank (rests_refl a) (same_port a.outlet.port) (follows_trans b c d bc cd).later (nothing rank other);
    held = inl (
      same ∙ cast,
      λ rank other. room_within a c d d rank (s.sent ∙ r.sent) (s.marks_sent ∙ r.marks_sent) (follows_trans a b c ab bc).later (same_port d.outlet.port)
          (room cast rank (other_along _ _ _ _ rank (s.own ∙ ap p.own r.program) (s.size ∙ ap p.size r.program) other)),
    );
  }
  waits a b c d ab bc cd r nothing s none (inr full) t same room = record {
    same = lists_then a b c d r s t;
    no_item = none_done a b c d r none t;
    nothing = λ rank other. came_within a a b d rank (rests_refl a) (same_port a.outlet.port) (follows_trans b c d bc cd).later (nothing rank other);
    held = inr (full.0, other_along _ _ _ _ full.0 (ap p.own (sym r.program)) (ap p.size (sym r.program)) full.1, full_within a b c d full.0 ab.later r.sent cd.later full.2);
  }
