-- The round in which a rank closes, and the last one, in which its cells refresh the ghosts of others.
use Rattle.std.proofs.Common.{◌≡◌, inl, inr, ⊎_elim, ℕ, zero, suc, ◌≤◌, true, List, [], ◌∷◌, All, Contains, Some, None, length, replicate, refl, sym, ap, ◌∙◌, subst, arith}
use Rattle.pg_adj.specs.Portions.{Portion}
use Rattle.pg_base.proofs.Members.{contains_cases}
use Rattle.pg_cells.specs.declared.bodies.CellBody.{CellBody}
use Rattle.pg_cells.specs.declared.bodies.CellBody.TheVariants.{Put as PutBody, Refresh}
use Rattle.pg_cells.specs.declared.flags.Flags.{Flags}
use Rattle.pg_cells.specs.declared.phases.Phase.TheVariants.{Filling, Closing, Refreshing}
use Rattle.pg_cells.specs.States.{CellState, NothingLeft, refreshes_of}
use Rattle.pg_cells.specs.Steps.{Event, Sends, SendsRefresh, after_body, after_round}
use Rattle.pg_cells.specs.Steps.Event.{put, handled, sent, closed, round_ended}
use Rattle.pg_cells.specs.Runs.{Run, rounds, ends_a_round, events_of}
use Rattle.pg_cells.proofs.BackwardLists.{all_at}
use Rattle.pg_cells.proofs.BackwardSteps.{IsOver, over_step, body_phase, sent_phase, after_closing, after_refreshing}

-- the later events end a round too
ends_later : (e : Event) (events : List Event) (n : ℕ) → rounds events ≡ suc n → ends_a_round (e ∷ events) ≡ true → ends_a_round events ≡ true
ends_later e [] n r h = absurd (omega (arith, r))
ends_later e (f ∷ events) n r h = h

some_round : (events : List Event) → ends_a_round events ≡ true → 1 ≤ rounds events
some_round [] h = absurd (cc)
some_round (round_ended ∷ events) h = omega arith
some_round (put v x ∷ []) h = absurd (cc)
some_round (put v x ∷ e ∷ events) h = some_round (e ∷ events) h
some_round (handled from body ∷ []) h = absurd (cc)
some_round (handled from body ∷ e ∷ events) h = some_round (e ∷ events) h
some_round (sent to body ∷ []) h = absurd (cc)
some_round (sent to body ∷ e ∷ events) h = some_round (e ∷ events) h
some_round (closed ∷ []) h = absurd (cc)
some_round (closed ∷ e ∷ events) h = some_round (e ∷ events) h

-- Cells in phase Refreshing that owe nothing.
pub record IsQuiet (s : CellState) : Type 0 where
  pub refreshing : s.phase ≡ Refreshing
  pub none_owed : All (λ owed. owed ≡ None) s.owed

module _ (join : ℕ → ℕ → ℕ) (start : ℕ → ℕ) where
  -- The cells at the start of their last round, of which these are the events, and the rest of their run.
  pub record Begins (part : Portion) (flags : Flags) (events : List Event) (t : CellState) : Type 0 where
    pub s : CellState
    pub rest : List Event
    pub run : Run join start s rest t
    pub one : rounds rest ≡ 1
    pub ends : ends_a_round rest ≡ true
    pub same : events_of 0 rest ≡ events
    pub over : IsOver part flags s
    pub quiet : IsQuiet s
    pub all_unsent : s.unsent ≡ replicate (length (refreshes_of part)) true

  module _ (part : Portion) (flags : Flags) (backward : flags.backward ≡ true) (t : CellState) where
    -- the end of a round in phase Closing
    end_closing : (events : List Event) (s u : CellState) → NothingLeft s → u ≡ after_round join start s.phase s → Run join start u events t → s.phase ≡ Closing → IsOver part flags s → IsOver part flags u
        → rounds events ≡ 1 → ends_a_round events ≡ true → Begins part flags (events_of 0 events) t
    end_closing events s u nothing after run closing over over_u one ends =
        let next : u ≡ record s { phase = Refreshing; unsent = replicate (length (refreshes_of s.part)) true } = after ∙ after_closing join start s closing (ap (λ f. f.backward) over.flags_are ∙ backward) in
        record {
          s = u;
          rest = events;
          run = run;
          one = one;
          ends = ends;
          same = refl;
          over = over_u;
          quiet = record {
            refreshing = ap (λ c. c.phase) next;
            none_owed = subst (All (λ owed. owed ≡ None)) (sym (ap (λ c. c.owed) next)) nothing.owed;
          };
          all_unsent = ap (λ c. c.unsent) next ∙ ap (λ p. replicate (length (refreshes_of p)) true) over.part_is;
        }

    -- from phase Closing
    from_closing : (events : List Event) (s : CellState) → Run join start s events t → s.phase ≡ Closing → IsOver part flags s → rounds events ≡ 2 → ends_a_round events ≡ true
        → Begins part flags (events_of 1 events) t
    from_closing [] s run closing over two ends = absurd (omega (arith, two))
    from_closing (put v x ∷ events) s run closing over two ends = let filling : s.phase ≡ Filling = run.1.0 in absurd (cc)
    from_closing (closed ∷ events) s run closing over two ends = let filling : s.phase ≡ Filling = run.1.0 in absurd (cc)
    from_closing (handled from body ∷ events) s run closing over two ends =
        from_closing events run.0 run.2 (ap (λ c. c.phase) run.1 ∙ body_phase join start body s ∙ closing) (over_step join start part flags (handled from body) s run.0 run.1 over) two
        (ends_later (handled from body) events 1 two ends)
    from_closing (sent to body ∷ events) s run closing over two ends =
        from_closing events run.0 run.2 (sent_phase join start to body s run.0 run.1 ∙ closing) (over_step join start part flags (sent to body) s run.0 run.1 over) two
        (ends_later (sent to body) events 1 two ends)
    from_closing (round_ended ∷ events) s run closing over two ends =
        let one : rounds events ≡ 1 = omega (arith, two) in
        ⊎_elim (λ (filling : s.phase ≡ Filling). absurd (cc))
        (λ (nothing : NothingLeft s). end_closing events s run.0 nothing run.1.1 run.2 closing over (over_step join start part flags round_ended s run.0 run.1 over) one (ends_later round_ended events 0 one ends))
        run.1.0

    -- the first event is not the close, so a later one is
    later : (e : Event) (events : List Event) → (e ≡ closed → ⊥) → Contains (e ∷ events) closed → Contains events closed
    later e events other c = ⊎_elim (λ (same : e ≡ closed). absurd (other same)) (λ (l : Contains events closed). l) (contains_cases e events closed c)

    -- the round after the one that holds the close
    pub begins : (events : List Event) (k : ℕ) (s : CellState) → Run join start s events t → IsOver part flags s → rounds events ≡ suc (suc k) → ends_a_round events ≡ true → Contains (events_of k events) closed
        → Begins part flags (events_of (suc k) events) t
    begins [] k s run over two ends c = absurd (omega (arith, two))
    begins (round_ended ∷ events) zero s run over two ends c = absurd (omega (arith, c.1))
    begins (round_ended ∷ events) (suc k) s run over two ends c =
        let more : rounds events ≡ suc (suc k) = omega (arith, two) in
        begins events k run.0 run.2 (over_step join start part flags round_ended s run.0 run.1 over) more (ends_later round_ended events (suc k) more ends) c
    begins (closed ∷ events) zero s run over two ends c =
        from_closing events run.0 run.2 (ap (λ u. u.phase) run.1.1) (over_step join start part flags closed s run.0 run.1 over) two (ends_later closed events 1 two ends)
    begins (closed ∷ events) (suc k) s run over two ends c =
        begins events (suc k) run.0 run.2 (over_step join start part flags closed s run.0 run.1 over) two (ends_later closed events (suc (suc k)) two ends) c
    begins (put v x ∷ events) zero s run over two ends c =
        begins events zero run.0 run.2 (over_step join start part flags (put v x) s run.0 run.1 over) two (ends_later (put v x) events 1 two ends) (later (put v x) (events_of 0 events) (λ e. cc) c)
    begins (put v x ∷ events) (suc k) s run over two ends c =
        begins events (suc k) run.0 run.2 (over_step join start part flags (put v x) s run.0 run.1 over) two (ends_later (put v x) events (suc (suc k)) two ends) c
    begins (handled from body ∷ events) zero s run over two ends c =
        begins events zero run.0 run.2 (over_step join start part flags (handled from body) s run.0 run.1 over) two (ends_later (handled from body) events 1 two ends) (later (handled from body) (events_of 0 events) (λ e. cc) c)
    begins (handled from body ∷ events) (suc k) s run over two ends c =
        begins events (suc k) run.0 run.2 (over_step join start part flags (handled from body) s run.0 run.1 over) two (ends_later (handled from body) events (suc (suc k)) two ends) c
    begins (sent to body ∷ events) zero s run over two ends c =
        begins events zero run.0 run.2 (over_step join start part flags (sent to body) s run.0 run.1 over) two (ends_later (sent to body) events 1 two ends) (later (sent to body) (events_of 0 events) (λ e. cc) c)
    begins (sent to body ∷ events) (suc k) s run over two ends c =
        begins events (suc k) run.0 run.2 (over_step join start part flags (sent to body) s run.0 run.1 over) two (ends_later (sent to body) events (suc (suc k)) two ends) c

  -- a run in phase Refreshing within a round: bodies are handled, and own cells go to their holders
  abbrev pub Refreshes : CellState → List Event → CellState → Type 0
  Refreshes s [] t = s ≡ t
  Refreshes s (handled from body ∷ events) t = Refreshes (after_body join start body s) events t
  Refreshes s (sent to body ∷ events) t = (u : CellState) × SendsRefresh s to body u × Refreshes u events t
  Refreshes s (put v x ∷ events) t = ⊥
  Refreshes s (closed ∷ events) t = ⊥
  Refreshes s (round_ended ∷ events) t = ⊥

  -- The last round, up to its end.
  pub record LastRound (s : CellState) (events : List Event) (t : CellState) : Type 0 where
    pub u : CellState
    pub run : Refreshes s events u
    pub refreshing : u.phase ≡ Refreshing
    pub nothing : NothingLeft u
    pub after : t ≡ record u { phase = Filling }

  quiet_body : (body : CellBody) (s : CellState) → IsQuiet s → IsQuiet (after_body join start body s)
  quiet_body (PutBody place value) s q = record { refreshing = q.refreshing; none_owed = q.none_owed }
  quiet_body (Refresh slot value) s q = record { refreshing = q.refreshing; none_owed = q.none_owed }

  -- quiet cells send nothing but own cells to holders
  quiet_sends : (to : ℕ) (body : CellBody) (s u : CellState) → IsQuiet s → Sends s to body u → SendsRefresh s to body u
  quiet_sends to body s u q (inl h) = let none : Some h.value ≡ None = all_at (λ owed. owed ≡ None) s.owed h.slot (Some h.value) q.none_owed h.owed in absurd (cc)
  quiet_sends to body s u q (inr (inl h)) = let closing = h.closing in let refreshing = q.refreshing in absurd (cc)
  quiet_sends to body s u q (inr (inr h)) = h

  quiet_after : (to : ℕ) (body : CellBody) (s u : CellState) → IsQuiet s → SendsRefresh s to body u → IsQuiet u
  quiet_after to body s u q h = record {
    refreshing = ap (λ c. c.phase) h.after ∙ q.refreshing;
    none_owed = subst (All (λ owed. owed ≡ None)) (sym (ap (λ c. c.owed) h.after)) q.none_owed;
  }

  pub last_round : (t : CellState) (events : List Event) (s : CellState) → Run join start s events t → IsQuiet s → rounds events ≡ 1 → ends_a_round events ≡ true → LastRound s (events_of 0 events) t
  last_round t [] s run q one ends = absurd (omega (arith, one))
  last_round t (put v x ∷ events) s run q one ends = let filling : s.phase ≡ Filling = run.1.0 in let refreshing = q.refreshing in absurd (cc)
  last_round t (closed ∷ events) s run q one ends = let filling : s.phase ≡ Filling = run.1.0 in let refreshing = q.refreshing in absurd (cc)
  last_round t (handled from body ∷ events) s run q one ends =
      let step : run.0 ≡ after_body join start body s = run.1 in
      let l = last_round t events (after_body join start body s) (subst (λ c. Run join start c events t) step run.2) (quiet_body body s q) one (ends_later (handled from body) events 0 one ends) in
      record { u = l.u; run = l.run; refreshing = l.refreshing; nothing = l.nothing; after = l.after }
  last_round t (sent to body ∷ events) s run q one ends =
      let step = quiet_sends to body s run.0 q run.1 in
      let l = last_round t events run.0 run.2 (quiet_after to body s run.0 q step) one (ends_later (sent to body) events 0 one ends) in
      record { u = l.u; run = (run.0, step, l.run); refreshing = l.refreshing; nothing = l.nothing; after = l.after }
  last_round t (round_ended ∷ []) s run q one ends =
      ⊎_elim (λ (filling : s.phase ≡ Filling). let refreshing = q.refreshing in absurd (cc))
      (λ (nothing : NothingLeft s). record { u = s; run = refl; refreshing = q.refreshing; nothing = nothing; after = sym run.2 ∙ run.1.1 ∙ after_refreshing join start s q.refreshing })
      run.1.0
  last_round t (round_ended ∷ e ∷ events) s run q one ends = absurd (omega (arith, one, some_round (e ∷ events) ends))
