-- What each event keeps, and that nothing is owed once all that a synchronize with backward asks for is sent.
use Rattle.std.proofs.Common.{◌≡◌, inl, inr, ℕ, zero, suc, ◌+◌, ◌<◌, List, [], ◌∷◌, Bool, true, false, cond, length, Option, None, All, Contains, refl, sym, ap, ◌∙◌, subst, get_or, arith}
use Rattle.pg_adj.specs.Portions.{Portion}
use Rattle.pg_cells.specs.declared.bodies.CellBody.{CellBody}
use Rattle.pg_cells.specs.declared.bodies.CellBody.TheVariants.{Put as PutBody, Refresh}
use Rattle.pg_cells.specs.declared.flags.Flags.{Flags}
use Rattle.pg_cells.specs.declared.phases.Phase.{Phase}
use Rattle.pg_cells.specs.declared.phases.Phase.TheVariants.{Filling, Closing, Refreshing}
use Rattle.pg_cells.specs.States.{CellState}
use Rattle.pg_cells.specs.Steps.{Event, CellsStep, Puts, Sends, MayEnd, after_body, after_round}
use Rattle.pg_cells.specs.Steps.Event.{put, handled, sent, closed, round_ended}
use Rattle.pg_cells.specs.Runs.{Run, rounds, events_of}
use Rattle.pg_cells.proofs.ForwardRounds.{AreWhole, none_after}

-- what every event keeps
abbrev pub frame_of : CellState → Portion × Flags
frame_of s = (s.part, s.flags)

-- what the end of a round keeps
abbrev pub held_of : CellState → Portion × Flags × List ℕ × List (Option ℕ) × List Bool
held_of s = (s.part, s.flags, s.own, s.owed, s.noted)

either_held : (b : Bool) (x y s : CellState) → held_of x ≡ held_of s → held_of y ≡ held_of s → held_of (cond b x y) ≡ held_of s
either_held true x y s h k = h
either_held false x y s h k = k

chosen_phase : (b : Bool) (x y : CellState) → b ≡ true → (cond b x y).phase ≡ x.phase
chosen_phase true x y h = refl
chosen_phase false x y h = absurd (cc h)

contains_rest : {X : Type 0} (y x : X) (ys : List X) → Contains (y ∷ ys) x → (y ≡ x → ⊥) → Contains ys x
contains_rest y x ys h apart = at h.0 h.1 h.2
  where
    at : (k : ℕ) → k < length (y ∷ ys) → get_or (y ∷ ys) k x ≡ x → Contains ys x
    at zero low is = absurd (apart is)
    at (suc k) low is = (k, omega (arith, low), is)

module _ (join : ℕ → ℕ → ℕ) (start : ℕ → ℕ) where
  pub round_held : (phase : Phase) (s : CellState) → held_of (after_round join start phase s) ≡ held_of s
  round_held Filling s = refl
  round_held Closing s = either_held s.flags.backward _ _ s refl refl
  round_held Refreshing s = refl

  put_framed : (s : CellState) (v x : ℕ) (t : CellState) → Puts join start s v x t → frame_of t ≡ frame_of s
  put_framed s v x t h = elim h [ inl own ↦ ap frame_of own.2 | inr ghost ↦ ap frame_of ghost.2 ]

  body_framed : (body : CellBody) (s : CellState) → frame_of (after_body join start body s) ≡ frame_of s
  body_framed (PutBody place value) s = refl
  body_framed (Refresh slot value) s = refl

  body_phase : (body : CellBody) (s : CellState) → (after_body join start body s).phase ≡ s.phase
  body_phase (PutBody place value) s = refl
  body_phase (Refresh slot value) s = refl

  sends_framed : (s : CellState) (to : ℕ) (body : CellBody) (t : CellState) → Sends s to body t → frame_of t ≡ frame_of s
  sends_framed s to body t h = elim h [ inl owed ↦ ap frame_of owed.after | inr (inl noted) ↦ ap frame_of noted.after | inr (inr pending) ↦ ap frame_of pending.after ]

  sends_phase : (s : CellState) (to : ℕ) (body : CellBody) (t : CellState) → Sends s to body t → t.phase ≡ s.phase
  sends_phase s to body t h = elim h [ inl owed ↦ ap (λ c. c.phase) owed.after | inr (inl noted) ↦ ap (λ c. c.phase) noted.after | inr (inr pending) ↦ ap (λ c. c.phase) pending.after ]

  pub framed : (s : CellState) (e : Event) (t : CellState) → CellsStep join start s e t → frame_of t ≡ frame_of s
  framed s (put v x) t h = put_framed s v x t h.1
  framed s (handled from body) t h = ap frame_of h ∙ body_framed body s
  framed s (sent to body) t h = sends_framed s to body t h
  framed s closed t h = ap frame_of h.1
  framed s round_ended t h = ap frame_of h.1 ∙ ap (λ held. (held.0, held.1)) (round_held s.phase s)

  -- nothing is owed
  abbrev pub OwesNothing : CellState → Type 0
  OwesNothing s = All (λ owed. owed ≡ None) s.owed

  ended_empty : (s t : CellState) → s.phase ≡ Refreshing → MayEnd s → t ≡ after_round join start s.phase s → OwesNothing t
  ended_empty s t phase may is = elim may [
    | inl filling ↦ absurd (cc (filling, phase))
    | inr none ↦ subst (λ owed. All (λ o. o ≡ None) owed) (sym (ap (λ c. c.owed) is ∙ ap (λ held. held.3) (round_held s.phase s))) none.owed
  ]

  -- in the last round nothing more is put, and all that is owed is sent
  refreshed : (events : List Event) (s t : CellState) → s.phase ≡ Refreshing → AreWhole events → rounds events ≡ 1 → Run join start s events t → OwesNothing t
  refreshed [] s t phase whole last run = absurd (omega arith)
  refreshed (put v x ∷ events) s t phase whole last run = absurd (cc (phase, run.1.0))
  refreshed (handled from body ∷ events) s t phase whole last run = refreshed events run.0 t (ap (λ c. c.phase) run.1 ∙ body_phase body s ∙ phase) whole.1 last run.2
  refreshed (sent to body ∷ events) s t phase whole last run = refreshed events run.0 t (sends_phase s to body run.0 run.1 ∙ phase) whole.1 last run.2
  refreshed (closed ∷ events) s t phase whole last run = absurd (cc (phase, run.1.0))
  refreshed (round_ended ∷ []) s t phase whole last run = ended_empty s t phase run.1.0 (sym run.2 ∙ run.1.1)
  refreshed (round_ended ∷ e ∷ events) s t phase whole last run = absurd (cc (none_after (e ∷ events) whole (omega arith)))

  turned : (s t : CellState) → s.phase ≡ Closing → s.flags.backward ≡ true → t ≡ after_round join start s.phase s → t.phase ≡ Refreshing
  turned s t phase backward is = ap (λ c. c.phase) is ∙ ap (λ p. (after_round join start p s).phase) phase ∙ chosen_phase s.flags.backward _ _ backward

  -- the same from the phase before on
  closing : (events : List Event) (s t : CellState) → s.phase ≡ Closing → s.flags.backward ≡ true → AreWhole events → rounds events ≡ 2 → Run join start s events t → OwesNothing t
  closing [] s t phase backward whole left run = absurd (omega arith)
  closing (put v x ∷ events) s t phase backward whole left run = absurd (cc (phase, run.1.0))
  closing (handled from body ∷ events) s t phase backward whole left run =
      closing events run.0 t (ap (λ c. c.phase) run.1 ∙ body_phase body s ∙ phase) (ap (λ f. f.1.backward) (framed s (handled from body) run.0 run.1) ∙ backward) whole.1 left run.2
  closing (sent to body ∷ events) s t phase backward whole left run =
      closing events run.0 t (sends_phase s to body run.0 run.1 ∙ phase) (ap (λ f. f.1.backward) (framed s (sent to body) run.0 run.1) ∙ backward) whole.1 left run.2
  closing (closed ∷ events) s t phase backward whole left run = absurd (cc (phase, run.1.0))
  closing (round_ended ∷ events) s t phase backward whole left run = refreshed events run.0 t (turned s run.0 phase backward run.1.1) whole (omega arith) run.2

  -- Nothing is owed at the end of the round after the one in which the cells closed.
  pub synchronized : (k : ℕ) (events : List Event) (s t : CellState) → s.flags.backward ≡ true → AreWhole events → rounds events ≡ k + 2 → Contains (events_of k events) closed
      → Run join start s events t → OwesNothing t
  synchronized k [] s t backward whole left close run = absurd (omega arith)
  synchronized zero (put v x ∷ events) s t backward whole left close run =
      synchronized zero events run.0 t (ap (λ f. f.1.backward) (framed s (put v x) run.0 run.1) ∙ backward) whole.1 left (contains_rest (put v x) closed (events_of 0 events) close (λ e. cc e)) run.2
  synchronized zero (handled from body ∷ events) s t backward whole left close run =
      synchronized zero events run.0 t (ap (λ f. f.1.backward) (framed s (handled from body) run.0 run.1) ∙ backward) whole.1 left (contains_rest (handled from body) closed (events_of 0 events) close (λ e. cc e)) run.2
  synchronized zero (sent to body ∷ events) s t backward whole left close run =
      synchronized zero events run.0 t (ap (λ f. f.1.backward) (framed s (sent to body) run.0 run.1) ∙ backward) whole.1 left (contains_rest (sent to body) closed (events_of 0 events) close (λ e. cc e)) run.2
  synchronized zero (closed ∷ events) s t backward whole left close run =
      closing events run.0 t (ap (λ c. c.phase) run.1.1) (ap (λ f. f.1.backward) (framed s closed run.0 run.1) ∙ backward) whole.1 (omega arith) run.2
  synchronized zero (round_ended ∷ events) s t backward whole left close run = absurd (omega (arith, close.1))
  synchronized (suc k) (put v x ∷ events) s t backward whole left close run =
      synchronized (suc k) events run.0 t (ap (λ f. f.1.backward) (framed s (put v x) run.0 run.1) ∙ backward) whole.1 left close run.2
  synchronized (suc k) (handled from body ∷ events) s t backward whole left close run =
      synchronized (suc k) events run.0 t (ap (λ f. f.1.backward) (framed s (handled from body) run.0 run.1) ∙ backward) whole.1 left close run.2
  synchronized (suc k) (sent to body ∷ events) s t backward whole left close run =
      synchronized (suc k) events run.0 t (ap (λ f. f.1.backward) (framed s (sent to body) run.0 run.1) ∙ backward) whole.1 left close run.2
  synchronized (suc k) (closed ∷ events) s t backward whole left close run =
      synchronized (suc k) events run.0 t (ap (λ f. f.1.backward) (framed s closed run.0 run.1) ∙ backward) whole.1 left close run.2
  synchronized (suc k) (round_ended ∷ events) s t backward whole left close run =
      synchronized k events run.0 t (ap (λ f. f.1.backward) (framed s round_ended run.0 run.1) ∙ backward) whole (omega arith) close run.2
