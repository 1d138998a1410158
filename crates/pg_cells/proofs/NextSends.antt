-- A pending put that is sent is what the step says, and the cells afterwards are so too.
use Rattle.std.proofs.Common.{◌≡◌, ◌<◌, ◌+◌, ◌-◌, ◌⊎◌, ℕ, suc, true, false, List, [], ◌∷◌, ◌++◌, Option, Some, None, All, length, replicate, get_or, set, is_some, refl, sym, ap, ◌∙◌, inl, inr, ⊎_elim, arith}
use Rattle.std.specs.Prelude.{slice_get, unwrap_or}
use Rattle.std.specs.Option.{option_or}
use Rattle.std.proofs.lemmas.Bool.{cases_Bool, cases_lt, both_ways, true≢false, or_parts, or_cases, and_from}
use Rattle.std.proofs.lemmas.List.{get_or_past, set-get_or, set_at, append_assoc, replicate_more, length-replicate}
use Rattle.std.proofs.lemmas.Option.{slice_get-get_or, none-some}
use Rattle.pg_cells.proofs.Padded.{all_get}
use Rattle.pg_adj.specs.declared.arcs.Ghost.{Ghost}
use Rattle.pg_cells.specs.PendingPuts.{is_pending}
use Rattle.pg_cells.specs.States.{CellState}
use Rattle.pg_cells.specs.Steps.{Sends}
use Rattle.pg_cells.specs.Unsent.{unsent_from}
use Rattle.pg_cells.specs.NextSends.{after_send}
use Rattle.pg_cells.specs.declared.bodies.CellBody.TheVariants.{Put as PutBody}
use Rattle.pg_cells.specs.declared.outgoing.NextSend.TheVariants.{PutOf}
use Rattle.pg_cells.specs.declared.flags.Flags.{Flags}
use Rattle.pg_cells.specs.declared.phases.Phase.TheVariants.{Closing}

module _ {X : Type 0} where
  same_set : (x : X) (xs : List X) (i : ℕ) → get_or xs i x ≡ x → set xs i x ≡ xs
  same_set x xs i h = ap (λ y. set xs i y) (sym h) ∙ set-get_or xs i x

  get_some : (x d : X) (xs : List X) (i : ℕ) → get_or xs i d ≡ x → (x ≡ d → ⊥) → slice_get xs i ≡ Some x
  get_some x d xs i h other = ⊎_elim (λ lt. slice_get-get_or xs i d lt ∙ ap (λ y. Some y) h) (λ ge. absurd (other (sym h ∙ get_or_past xs i d ge))) (cases_lt i (length xs))

-- Puts are owed only with forward, and ghosts are noted only with flush.
pub record OweByFlags (s : CellState) : Type 0 where
  pub owed : s.flags.forward ≡ false → All (λ owed. owed ≡ None) s.owed
  pub noted : s.flags.flush ≡ false → All (λ noted. noted ≡ false) s.noted
  pub values : (slot : ℕ) → get_or s.noted slot false ≡ true → is_some (get_or s.ghosts slot None) ≡ true

not_both : (f : Flags) → f.forward ≡ true → f.flush ≡ false
not_both f h = ⊎_elim (λ t. absurd (both_ways _ (or_parts _ _ f.permitted).0 (and_from f.forward f.flush h t))) (λ n. n) (cases_Bool f.flush)

forwards : (s : CellState) (slot value : ℕ) → OweByFlags s → get_or s.owed slot None ≡ Some value → s.flags.forward ≡ true
forwards s slot value o h = ⊎_elim (λ t. t) (λ f. absurd (none-some value (sym (all_get None s.owed slot (o.owed f)) ∙ h))) (cases_Bool s.flags.forward)

flushes : (s : CellState) (slot : ℕ) → OweByFlags s → get_or s.noted slot false ≡ true → s.flags.flush ≡ true
flushes s slot o h = ⊎_elim (λ t. t) (λ f. absurd (both_ways _ (all_get false s.noted slot (o.noted f)) h)) (cases_Bool s.flags.flush)

owed_outgoing : (s : CellState) (slot value : ℕ) (held : Ghost) → OweByFlags s → slice_get s.part.ghosts slot ≡ Some held → get_or s.owed slot None ≡ Some value
    → Sends s held.home.0 (PutBody held.place value) (after_send (PutOf slot) s)
owed_outgoing s slot value held o there h =
    let noted = same_set false s.noted slot (all_get false s.noted slot (o.noted (not_both s.flags (forwards s slot value o h)))) in
    inl record {
      slot = slot;
      held = held;
      value = value;
      there = there;
      owed = get_some (Some value) None s.owed slot h (λ e. none-some value (sym e));
      home = refl;
      body_is = refl;
      after = ap (λ ns. record s { owed = set s.owed slot None; noted = ns }) noted;
    }

noted_outgoing : (s : CellState) (slot value : ℕ) (held : Ghost) → OweByFlags s → slice_get s.part.ghosts slot ≡ Some held → get_or s.owed slot None ≡ None
    → get_or s.noted slot false ≡ true → get_or s.ghosts slot None ≡ Some value → (s.flags.forward ≡ true) ⊎ (s.phase ≡ Closing)
    → Sends s held.home.0 (PutBody held.place value) (after_send (PutOf slot) s)
noted_outgoing s slot value held o there none h cell paid =
    let flush = flushes s slot o h in
    inr (inl record {
      slot = slot;
      held = held;
      value = value;
      closing = ⊎_elim (λ f. absurd (both_ways s.flags.flush (not_both s.flags f) flush)) (λ p. p) paid;
      there = there;
      noted = get_some true false s.noted slot h (λ e. true≢false e);
      cell = get_some (Some value) None s.ghosts slot cell (λ e. none-some value (sym e));
      home = refl;
      body_is = refl;
      after = ap (λ os. record s { owed = os; noted = set s.noted slot false }) (same_set None s.owed slot none);
    })

noted_pending : (s : CellState) (slot : ℕ) → get_or s.owed slot None ≡ None → is_pending s.owed s.noted slot ≡ true → get_or s.noted slot false ≡ true
noted_pending s slot none pending_put =
    ⊎_elim (λ some. absurd (both_ways (is_some (get_or s.owed slot None)) (ap (λ o. is_some o) none) some)) (λ n. n)
    (or_cases (is_some (get_or s.owed slot None)) (get_or s.noted slot false) pending_put)

by_pending : (s : CellState) (slot value : ℕ) (held : Ghost) (owed cell : Option ℕ) → OweByFlags s → slice_get s.part.ghosts slot ≡ Some held
    → get_or s.owed slot None ≡ owed → get_or s.ghosts slot None ≡ cell → value ≡ unwrap_or (option_or owed cell) 0
    → is_pending s.owed s.noted slot ≡ true → (s.flags.forward ≡ true) ⊎ (s.phase ≡ Closing)
    → Sends s held.home.0 (PutBody held.place value) (after_send (PutOf slot) s)
by_pending s slot value held (Some x) cell o there a b e pending_put paid = owed_outgoing s slot value held o there (a ∙ ap (λ y. Some y) (sym e))
by_pending s slot value held None (Some x) o there a b e pending_put paid =
    noted_outgoing s slot value held o there a (noted_pending s slot a pending_put) (b ∙ ap (λ y. Some y) (sym e)) paid
by_pending s slot value held None None o there a b e pending_put paid = absurd (both_ways _ (ap (λ c. is_some c) b) (o.values slot (noted_pending s slot a pending_put)))

-- what is sent for a slot is the put that is owed, else the value of the ghost
pub pending_outgoing : (s : CellState) (slot value : ℕ) (held : Ghost) → OweByFlags s → slice_get s.part.ghosts slot ≡ Some held
    → value ≡ unwrap_or (option_or (get_or s.owed slot None) (get_or s.ghosts slot None)) 0
    → is_pending s.owed s.noted slot ≡ true → (s.flags.forward ≡ true) ⊎ (s.phase ≡ Closing)
    → Sends s held.home.0 (PutBody held.place value) (after_send (PutOf slot) s)
pending_outgoing s slot value held o there e pending_put paid = by_pending s slot value held (get_or s.owed slot None) (get_or s.ghosts slot None) o there refl refl e pending_put paid

rest : (count next : ℕ) → next < count → count - next ≡ suc (count - (next + 1))
rest count next h = omega arith

unsent_split : (count next : ℕ) → next < count → unsent_from count next ≡ replicate next false ++ true ∷ replicate (count - (next + 1)) true
unsent_split count next h = ap (λ k. replicate next false ++ replicate k true) (rest count next h)

-- one refresh more was sent
pub sent_more : (count next : ℕ) → next < count → unsent_from count (next + 1) ≡ set (unsent_from count next) next false
sent_more count next h =
    ap (λ fs. fs ++ replicate (count - (next + 1)) true) (sym (replicate_more next false)) ∙ (append_assoc (replicate next false) (false ∷ []) (replicate (count - (next + 1)) true)
    ∙ sym (ap (λ fs. set fs next false) (unsent_split count next h) ∙ set_at (replicate next false) true (replicate (count - (next + 1)) true) false next (length-replicate next false)))
