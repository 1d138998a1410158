-- What no event changes, and what none changes in a phase.
use Rattle.std.proofs.Common.{◌≡◌, inl, inr, ℕ, true, cond, List, [], ◌∷◌, Some, None, length, replicate, refl, sym, ap, ◌∙◌, subst}
use Rattle.std.proofs.lemmas.Bool.{cond_both}
use Rattle.std.proofs.lemmas.List.{length-map, length-replicate, length-set}
use Rattle.pg_adj.specs.Portions.{Portion}
use Rattle.pg_cells.specs.declared.bodies.CellBody.{CellBody}
use Rattle.pg_cells.specs.declared.bodies.CellBody.TheVariants.{Put as PutBody, Refresh}
use Rattle.pg_cells.specs.declared.flags.Flags.{Flags}
use Rattle.pg_cells.specs.declared.phases.Phase.{Phase}
use Rattle.pg_cells.specs.declared.phases.Phase.TheVariants.{Filling, Closing, Refreshing}
use Rattle.pg_cells.specs.States.{CellState, refreshes_of, new_cells}
use Rattle.pg_cells.specs.Steps.{Event, CellsStep, Sends, Puts, after_body, after_round, ghosts_after, join_own, join_ghost}
use Rattle.pg_cells.specs.Steps.Event.{put, handled, sent, closed, round_ended}
use Rattle.pg_cells.specs.Runs.{Run}

-- The part and the flags, and how many cells there are.
pub record IsOver (part : Portion) (flags : Flags) (s : CellState) : Type 0 where
  pub part_is : s.part ≡ part
  pub flags_are : s.flags ≡ flags
  pub own_each : length s.own ≡ length part.vertices
  pub ghosts_each : length s.ghosts ≡ length part.ghosts

pub new_over : (start : ℕ → ℕ) (part : Portion) (flags : Flags) → IsOver part flags (new_cells start part flags)
new_over start part flags = record {
  part_is = refl;
  flags_are = refl;
  own_each = length-map part.vertices start;
  ghosts_each = length-map part.ghosts (λ g. Some (start g.vertex.0));
}

module _ (join : ℕ → ℕ → ℕ) (start : ℕ → ℕ) (part : Portion) (flags : Flags) where
  own_over : (place x : ℕ) (s : CellState) → IsOver part flags s → IsOver part flags (join_own join start place x s)
  own_over place x s o = record {
    part_is = o.part_is;
    flags_are = o.flags_are;
    own_each = length-set s.own place _ ∙ o.own_each;
    ghosts_each = o.ghosts_each;
  }

  ghost_over : (slot x : ℕ) (s : CellState) → IsOver part flags s → IsOver part flags (join_ghost join start slot x s)
  ghost_over slot x s o = record {
    part_is = o.part_is;
    flags_are = o.flags_are;
    own_each = o.own_each;
    ghosts_each = length-set s.ghosts slot _ ∙ o.ghosts_each;
  }

  body_over : (body : CellBody) (s : CellState) → IsOver part flags s → IsOver part flags (after_body join start body s)
  body_over (PutBody place value) s o = own_over place value s o
  body_over (Refresh slot value) s o = record {
    part_is = o.part_is;
    flags_are = o.flags_are;
    own_each = o.own_each;
    ghosts_each = length-set s.ghosts slot _ ∙ o.ghosts_each;
  }

  -- the ghosts after a synchronize without backward are as many
  as_many : (s : CellState) → IsOver part flags s → length (ghosts_after join start s) ≡ length part.ghosts
  as_many s o =
      let ghosts_are : length s.part.ghosts ≡ length part.ghosts = ap (λ p. length p.ghosts) o.part_is in
      cond_both s.flags.reset _ _ (λ l. length l ≡ length part.ghosts)
      (λ _. length-map s.part.ghosts (λ g. Some (start g.vertex.0)) ∙ ghosts_are)
      (λ _. cond_both s.flags.clear _ _ (λ l. length l ≡ length part.ghosts) (λ _. length-replicate (length s.part.ghosts) None ∙ ghosts_are) (λ _. o.ghosts_each))

  round_over : (phase : Phase) (s : CellState) → IsOver part flags s → IsOver part flags (after_round join start phase s)
  round_over Filling s o = o
  round_over Closing s o = cond_both s.flags.backward _ _ (IsOver part flags)
      (λ _. record { part_is = o.part_is; flags_are = o.flags_are; own_each = o.own_each; ghosts_each = o.ghosts_each })
      (λ _. record { part_is = o.part_is; flags_are = o.flags_are; own_each = o.own_each; ghosts_each = as_many s o })
  round_over Refreshing s o = record { part_is = o.part_is; flags_are = o.flags_are; own_each = o.own_each; ghosts_each = o.ghosts_each }

  put_over : (v x : ℕ) (s t : CellState) → Puts join start s v x t → IsOver part flags s → IsOver part flags t
  put_over v x s t (inl p) o = subst (IsOver part flags) (sym p.2) (own_over p.0 x s o)
  put_over v x s t (inr p) o = subst (IsOver part flags) (sym p.2) (ghost_over p.0 x s o)

  sent_over : (to : ℕ) (body : CellBody) (s t : CellState) → Sends s to body t → IsOver part flags s → IsOver part flags t
  sent_over to body s t (inl h) o = subst (IsOver part flags) (sym h.after) (record { part_is = o.part_is; flags_are = o.flags_are; own_each = o.own_each; ghosts_each = o.ghosts_each })
  sent_over to body s t (inr (inl h)) o = subst (IsOver part flags) (sym h.after) (record { part_is = o.part_is; flags_are = o.flags_are; own_each = o.own_each; ghosts_each = o.ghosts_each })
  sent_over to body s t (inr (inr h)) o = subst (IsOver part flags) (sym h.after) (record { part_is = o.part_is; flags_are = o.flags_are; own_each = o.own_each; ghosts_each = o.ghosts_each })

  pub over_step : (e : Event) (s t : CellState) → CellsStep join start s e t → IsOver part flags s → IsOver part flags t
  over_step (put v x) s t h o = put_over v x s t h.1 o
  over_step (handled from body) s t h o = subst (IsOver part flags) (sym h) (body_over body s o)
  over_step (sent to body) s t h o = sent_over to body s t h o
  over_step closed s t h o = subst (IsOver part flags) (sym h.1) (record { part_is = o.part_is; flags_are = o.flags_are; own_each = o.own_each; ghosts_each = o.ghosts_each })
  over_step round_ended s t h o = subst (IsOver part flags) (sym h.1) (round_over s.phase s o)

  pub over_run : (events : List Event) (s t : CellState) → Run join start s events t → IsOver part flags s → IsOver part flags t
  over_run [] s t run o = subst (IsOver part flags) run o
  over_run (e ∷ events) s t run o = over_run events run.0 t run.2 (over_step e s run.0 run.1 o)

module _ (join : ℕ → ℕ → ℕ) (start : ℕ → ℕ) where
  pub body_phase : (body : CellBody) (s : CellState) → (after_body join start body s).phase ≡ s.phase
  body_phase (PutBody place value) s = refl
  body_phase (Refresh slot value) s = refl

  pub sent_phase : (to : ℕ) (body : CellBody) (s t : CellState) → Sends s to body t → t.phase ≡ s.phase
  sent_phase to body s t (inl h) = ap (λ u. u.phase) h.after
  sent_phase to body s t (inr (inl h)) = ap (λ u. u.phase) h.after
  sent_phase to body s t (inr (inr h)) = ap (λ u. u.phase) h.after

  -- the end of a round in phase Closing, with backward
  pub after_closing : (s : CellState) → s.phase ≡ Closing → s.flags.backward ≡ true → after_round join start s.phase s ≡ record s { phase = Refreshing; unsent = replicate (length (refreshes_of s.part)) true }
  after_closing s closing backward = ap (λ p. after_round join start p s) closing ∙ ap (λ b. cond b (record s { phase = Refreshing; unsent = replicate (length (refreshes_of s.part)) true }) (record s { phase = Filling; ghosts = ghosts_after join start s })) backward

  pub after_refreshing : (s : CellState) → s.phase ≡ Refreshing → after_round join start s.phase s ≡ record s { phase = Filling }
  after_refreshing s refreshing = ap (λ p. after_round join start p s) refreshing
