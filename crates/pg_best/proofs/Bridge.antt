-- The law where each rank's lists are known only by what a book holds of them.
use Rattle.std.proofs.Common.{◌≡◌, ◌⊎◌, ℕ, ◌^◌, ◌<◌, ◌≤◌, Bool, true, Option, List, [], sym, ap, subst, ◌∙◌, inl, inr, arith, All}
use Rattle.std.proofs.lemmas.Bool.{cases_lt}
use Rattle.std.proofs.lemmas.List.Elements.{All-contains}
use Rattle.pg_base.specs.declared.TheConstants.{MAX_VERTICES}
use Rattle.pg_base.specs.Graph.{Arc}
use Rattle.pg_group.specs.declared.messages.Body.{Body}
use Rattle.pg_group.specs.Ranked.{IsOther, list_at}
use Rattle.pg_group.specs.Rounds.{marks, ends_with_mark}
use Rattle.pg_label.specs.declared.values.Value.{Value}
use Rattle.pg_label.specs.Values.{extended}
use Rattle.pg_best.specs.declared.offers.Offer.{Offer}
use Rattle.pg_best.specs.Best.{Label, Best}
use Rattle.pg_best.specs.Parts.{IsVertex, LocalArc, Part, IsDivided}
use Rattle.pg_best.specs.LocalRelax.{LocalRelax, IsMarked}
use Rattle.pg_best.specs.Relaxed.{HoldsOffer, Relaxed}
use Rattle.pg_best.specs.Relaxation.{Run, IsArc, IsRun, IsIdle}
use Rattle.pg_best.proofs.Complete.{idle_is_best}
use Rattle.pg_best.proofs.Crossing.{idle_is_relaxed}
use Rattle.pg_best.proofs.Ending.{end_is_idle}

-- One rank's lists, which are those of the lanes from and to it.
pub record KeptAt (ranks : ℕ) (sent_on taken_on : ℕ → ℕ → List (Body Offer)) (label : Label) (r : ℕ) (part : Part) (cell : ℕ → Option Value) (due : LocalArc → Bool) : Type 0 where
  pub handled : List (List (Body Offer))
  pub sent : List (List (Body Offer))
  pub keeps : LocalRelax label part handled sent cell due
  pub handled_is : (from : ℕ) → IsOther r ranks from → list_at handled from ≡ taken_on from r
  pub sent_is : (to : ℕ) → IsOther r ranks to → list_at sent to ≡ sent_on r to

module _ (n ranks : ℕ) (arcs : List Arc) (owner place : ℕ → ℕ) (parts : ℕ → Part) (label : Label) (cell : ℕ → ℕ → Option Value) (due : ℕ → LocalArc → Bool) (last : ℕ → ℕ) (sent_on taken_on : ℕ → ℕ → List (Body Offer))
    (kept : (r : ℕ) → r < ranks → KeptAt ranks sent_on taken_on label r (parts r) (cell r) (due r)) where
  pick_handled : (r : ℕ) → (r < ranks) ⊎ (ranks ≤ r) → List (List (Body Offer))
  pick_handled r (inl h) = (kept r h).handled
  pick_handled r (inr h) = []

  pick_sent : (r : ℕ) → (r < ranks) ⊎ (ranks ≤ r) → List (List (Body Offer))
  pick_sent r (inl h) = (kept r h).sent
  pick_sent r (inr h) = []

  abbrev run_of : Run
  run_of = record {
    n = n;
    ranks = ranks;
    arcs = arcs;
    owner = owner;
    place = place;
    parts = parts;
    label = label;
    handled = λ r. pick_handled r (cases_lt r ranks);
    sent = λ r. pick_sent r (cases_lt r ranks);
    cell = cell;
    due = due;
    last = last;
  }

  kept_picked : (r : ℕ) (c : (r < ranks) ⊎ (ranks ≤ r)) → r < ranks → LocalRelax label (parts r) (pick_handled r c) (pick_sent r c) (cell r) (due r)
  unfolding pick_handled pick_sent
  kept_picked r (inl h) l = (kept r h).keeps
  kept_picked r (inr h) l = absurd (omega arith)

  picked_handled : (r from : ℕ) (c : (r < ranks) ⊎ (ranks ≤ r)) → r < ranks → IsOther r ranks from → list_at (pick_handled r c) from ≡ taken_on from r
  unfolding pick_handled
  picked_handled r from (inl h) l other = (kept r h).handled_is from other
  picked_handled r from (inr h) l other = absurd (omega arith)

  picked_sent : (r to : ℕ) (c : (r < ranks) ⊎ (ranks ≤ r)) → r < ranks → IsOther r ranks to → list_at (pick_sent r c) to ≡ sent_on r to
  unfolding pick_sent
  picked_sent r to (inl h) l other = (kept r h).sent_is to other
  picked_sent r to (inr h) l other = absurd (omega arith)

  is_run : n ≤ MAX_VERTICES → All (IsArc n) arcs → All (λ (a : Arc). label.add a.weight < 2 ^ 32) arcs → IsDivided n ranks arcs owner place parts
      → ((r s : ℕ) → r < ranks → IsOther r ranks s → taken_on r s ≡ sent_on r s) → IsRun run_of
  is_run size are costs divided whole = record {
    size = size;
    arcs = are;
    costs = costs;
    divided = divided;
    taken = λ r s h other.
        picked_handled s r (cases_lt s ranks) other.0 (omega arith)
        ∙ (whole r s h other ∙ sym (picked_sent r s (cases_lt r ranks) h other));
    kept = λ r h. kept_picked r (cases_lt r ranks) h;
  }

  marked_picked : (r : ℕ) (c : (r < ranks) ⊎ (ranks ≤ r)) → r < ranks → ((h : r < ranks) → IsMarked (parts r) (kept r h).handled (kept r h).sent (due r) (last r))
      → IsMarked (parts r) (pick_handled r c) (pick_sent r c) (due r) (last r)
  unfolding pick_handled pick_sent
  marked_picked r (inl h) l m = m h
  marked_picked r (inr h) l m = absurd (omega arith)

  -- Where all ranks have ended, over whole lists with as many marks each, the last of them at the end.
  module _ (size : n ≤ MAX_VERTICES) (are : All (IsArc n) arcs) (costs : All (λ (a : Arc). label.add a.weight < 2 ^ 32) arcs) (divided : IsDivided n ranks arcs owner place parts)
      (whole : (r s : ℕ) → r < ranks → IsOther r ranks s → taken_on r s ≡ sent_on r s)
      (ended : (r : ℕ) (h : r < ranks) → IsMarked (parts r) (kept r h).handled (kept r h).sent (due r) (last r))
      (rounds : ℕ) (marked : (r s : ℕ) → r < ranks → IsOther r ranks s → marks (sent_on r s) ≡ rounds)
      (ends : (r s : ℕ) → r < ranks → IsOther r ranks s → ends_with_mark (sent_on r s) ≡ true) where
    run_is : IsRun run_of
    run_is = is_run size are costs divided whole

    idle_at_end : IsIdle run_of
    idle_at_end = end_is_idle run_of run_is (record {
      rounds = rounds;
      marked = λ r s h other. ap marks (picked_sent r s (cases_lt r ranks) h other) ∙ marked r s h other;
      last = λ r s h other. ap ends_with_mark (picked_sent r s (cases_lt r ranks) h other) ∙ ends r s h other;
      kept = λ r h. marked_picked r (cases_lt r ranks) h (ended r);
    })

    pub at_end : ((v : ℕ) → IsVertex n v → Best label arcs v (cell (owner v) (place v))) × Relaxed label arcs owner place (λ v. cell (owner v) (place v)) sent_on
    at_end = (
      idle_is_best run_of run_is idle_at_end,
      λ a x among apart has within.
          let ends = All-contains (IsArc n) arcs a are among in
          let from : owner a.from < ranks = divided.owned a.from ends.from in
          subst (λ l. HoldsOffer l a.to (place a.to) (extended x (label.add a.weight))) (picked_sent (owner a.from) (owner a.to) (cases_lt (owner a.from) ranks) from (divided.owned a.to ends.to, apart))
          (idle_is_relaxed run_of run_is idle_at_end a x among apart has within),
    )
