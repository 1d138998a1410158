-- What a step of one rank has to show so that the law is kept over its lists.
use Rattle.std.proofs.Common.{◌≡◌, ◌≢◌, ◌⊎◌, ℕ, zero, suc, ◌<◌, ◌≤◌, Bool, false, List, [], ◌∷◌, refl, sym, ap, ◌∙◌, subst, inl, inr, ⊎_elim, arith, Option, Some, Contains}
use Rattle.std.proofs.lemmas.List.Elements.{All-contains, Contains-push_cases, Contains-append_left}
use Rattle.pg_base.specs.Graph.{Arc}
use Rattle.pg_group.specs.declared.messages.Body.{Body}
use Rattle.pg_group.specs.Ranked.{IsOther, list_at, append_at}
use Rattle.pg_label.specs.declared.values.Value.{Value}
use Rattle.pg_best.specs.declared.offers.Offer.{Offer}
use Rattle.pg_label.specs.Values.{HasAtMost, IsWithin, measure, start_value, extended}
use Rattle.pg_best.specs.Best.{Label, Belongs}
use Rattle.pg_best.specs.Parts.{Part, LocalArc, IsAt, Include, whole_arc}
use Rattle.pg_best.specs.LocalRelax.{IsAddressed, IsItemAt, Fits, IsOffered, LocalRelax}
use Rattle.pg_best.proofs.Complete.{extended_belongs}

-- The value is that of a cell, extended by an arc of its place that leads to v.
pub record IsExtension (label : Label) (part : Part) (cell : ℕ → Option Value) (v : ℕ) (x : Value) : Type 0 where
  pub arc : LocalArc
  pub among : Contains part.arcs arc
  pub start : ℕ
  pub at : IsAt part arc.at start
  pub to : arc.to ≡ v
  pub value : Value
  pub has : cell arc.at ≡ Some value
  pub is : x ≡ extended value (label.add arc.weight)

-- The value is that of an offer that was handled and fits.
pub record IsHandled (part : Part) (handled : List (List (Body Offer))) (v : ℕ) (x : Value) : Type 0 where
  pub from : ℕ
  pub offer : Offer
  pub other : IsOther part.rank part.ranks from
  pub among : IsItemAt handled from offer
  pub fits : Fits part offer
  pub to : offer.to.0 ≡ v
  pub is : offer.value ≡ x

-- The arc is relaxed.
pub record IsRelaxed (label : Label) (part : Part) (sent : List (List (Body Offer))) (cell : ℕ → Option Value) (a : LocalArc) : Type 0 where
  pub own : (x : Value) → cell a.at ≡ Some x → IsWithin (extended x (label.add a.weight)) → a.home ≡ part.rank → HasAtMost (cell a.place) (extended x (label.add a.weight))
  pub other : (x : Value) → cell a.at ≡ Some x → IsWithin (extended x (label.add a.weight)) → a.home ≢ part.rank → IsOffered sent a (extended x (label.add a.weight))

pub record Steps (label : Label) (part : Part) (handled sent : List (List (Body Offer))) (cell : ℕ → Option Value) (due : LocalArc → Bool)
    (handled' sent' : List (List (Body Offer))) (cell' : ℕ → Option Value) (due' : LocalArc → Bool) : Type 0 where
  pub falls : (i : ℕ) (y : Value) → HasAtMost (cell i) y → HasAtMost (cell' i) y
  pub more_handled : (from : ℕ) (o : Offer) → IsItemAt handled from o → IsItemAt handled' from o
  pub more_sent : (to : ℕ) (o : Offer) → IsItemAt sent to o → IsItemAt sent' to o
  pub lowered : (from : ℕ) (o : Offer) → IsItemAt handled' from o → Fits part o → IsItemAt handled from o ⊎ HasAtMost (cell' o.place) o.value
  pub relaxed : (a : LocalArc) → Contains part.arcs a → due' a ≡ false → ((due a ≡ false) × (cell' a.at ≡ cell a.at)) ⊎ IsRelaxed label part sent' cell' a
  pub cells : (i v : ℕ) (x : Value) → IsAt part i v → cell' i ≡ Some x → (cell i ≡ Some x) ⊎ (IsHandled part handled' v x ⊎ IsExtension label part cell v x)
  pub offers : (to : ℕ) (o : Offer) → IsItemAt sent' to o → IsItemAt sent to o ⊎ (IsWithin o.value × IsAddressed part to o × IsExtension label part cell o.to.0 o.value)

module _ (label : Label) (part : Part) (handled sent : List (List (Body Offer))) (cell : ℕ → Option Value) (due : LocalArc → Bool)
    (handled' sent' : List (List (Body Offer))) (cell' : ℕ → Option Value) (due' : LocalArc → Bool)
    (kept : LocalRelax label part handled sent cell due) (step : Steps label part handled sent cell due handled' sent' cell' due') where
  -- what the premise of support says of offers handled by now
  abbrev Below : List Arc → ℕ → Type 0
  Below arcs b = (from : ℕ) (o : Offer) → IsOther part.rank part.ranks from → IsItemAt handled' from o → Fits part o → measure o.value < b → Belongs label arcs o.to.0 o.value

  extension_belongs : (arcs : List Arc) (b : ℕ) → Include arcs part → Below arcs b → (v : ℕ) (x : Value) → IsExtension label part cell v x → measure x ≤ b → Belongs label arcs v x
  extension_belongs arcs b all below v x e l =
      let whole : Arc = whole_arc part e.arc in
      let among : Contains arcs whole = All-contains (λ (a : LocalArc). Contains arcs (whole_arc part a)) part.arcs e.arc all e.among in
      let y : Value = extended e.value (label.add e.arc.weight) in
      let size : measure y ≤ b = subst (λ (z : Value). measure z ≤ b) e.is l in
      let start : Belongs label arcs e.start e.value =
      kept.supported.cells arcs b all (λ from o other h fits m. below from o other (step.more_handled from o h) fits m) e.arc.at e.start e.value e.at e.has (omega arith) in
      let here : Belongs label arcs whole.from e.value = subst (λ (u : ℕ). Belongs label arcs u e.value) (sym e.at.vertex) start in
      subst (Belongs label arcs v) (sym e.is) (subst (λ (u : ℕ). Belongs label arcs u y) e.to (extended_belongs label arcs whole e.value among here))

  handled_belongs : (arcs : List Arc) (b : ℕ) → Below arcs b → (v : ℕ) (x : Value) → IsHandled part handled' v x → measure x < b → Belongs label arcs v x
  handled_belongs arcs b below v x h l =
      let size : measure h.offer.value < b = subst (λ (z : Value). measure z < b) (sym h.is) l in
      subst (Belongs label arcs v) h.is (subst (λ (u : ℕ). Belongs label arcs u h.offer.value) h.to (below h.from h.offer h.other h.among h.fits size))

  more_offered : (a : LocalArc) (y : Value) → IsOffered sent a y → IsOffered sent' a y
  more_offered a y h = record { offer = h.offer; among = step.more_sent a.home h.offer h.among; to = h.to; place = h.place; most = h.most }

  pub step_keeps : LocalRelax label part handled' sent' cell' due'
  step_keeps = record {
    bounded = record {
      started = λ i v class at started. step.falls i (start_value class) (kept.bounded.started i v class at started);
      lowered = λ from o other among fits. elim (step.lowered from o among fits) [
        | inl before ↦ step.falls o.place o.value (kept.bounded.lowered from o other before fits)
        | inr now ↦ now
      ];
    };
    relaxed = record {
      own = λ a x among idle has within home. elim (step.relaxed a among idle) [
        | inl before ↦ step.falls a.place (extended x (label.add a.weight)) (kept.relaxed.own a x among before.0 (sym before.1 ∙ has) within home)
        | inr now ↦ now.own x has within home
      ];
      other = λ a x among idle has within away. elim (step.relaxed a among idle) [
        | inl before ↦ more_offered a (extended x (label.add a.weight)) (kept.relaxed.other a x among before.0 (sym before.1 ∙ has) within away)
        | inr now ↦ now.other x has within away
      ];
    };
    supported = record {
      cells = λ arcs b all below i v x at has l. elim (step.cells i v x at has) [
        | inl before ↦ kept.supported.cells arcs b all (λ from o other h fits m. below from o other (step.more_handled from o h) fits m) i v x at before l
        | inr (inl offer) ↦ handled_belongs arcs b below v x offer l
        | inr (inr extension) ↦ extension_belongs arcs b all below v x extension (omega arith)
      ];
      offers = λ arcs b all below to o other among l. elim (step.offers to o among) [
        | inl before ↦ kept.supported.offers arcs b all (λ from p away h fits m. below from p away (step.more_handled from p h) fits m) to o other before l
        | inr now ↦ extension_belongs arcs b all below o.to.0 o.value now.2 l
      ];
      within = λ to o other among. elim (step.offers to o among) [
        | inl before ↦ kept.supported.within to o other before
        | inr now ↦ now.0
      ];
    };
    addressed = λ to o other among. elim (step.offers to o among) [
      | inl before ↦ kept.addressed to o other before
      | inr now ↦ now.1
    ];
  }

-- what stands on the lists by rank after x joined one of them
module _ {X : Type 0} where
  pub joined_cases : (lists : List (List X)) (k j : ℕ) (x y : X) → Contains (list_at (append_at lists k x) j) y → Contains (list_at lists j) y ⊎ ((x ≡ y) × (j ≡ k))
  joined_cases [] k j x y c = inl c
  joined_cases (l ∷ ls) zero zero x y c = ⊎_elim (λ before. inl before) (λ same. inr (same, refl)) (Contains-push_cases l x y c)
  joined_cases (l ∷ ls) zero (suc j) x y c = inl c
  joined_cases (l ∷ ls) (suc k) zero x y c = inl c
  joined_cases (l ∷ ls) (suc k) (suc j) x y c = ⊎_elim (λ before. inl before) (λ now. inr (now.0, ap suc now.1)) (joined_cases ls k j x y c)

  pub joined_before : (lists : List (List X)) (k j : ℕ) (x y : X) → Contains (list_at lists j) y → Contains (list_at (append_at lists k x) j) y
  joined_before [] k j x y c = c
  joined_before (l ∷ ls) zero zero x y c = Contains-append_left l (x ∷ []) y c
  joined_before (l ∷ ls) zero (suc j) x y c = c
  joined_before (l ∷ ls) (suc k) zero x y c = c
  joined_before (l ∷ ls) (suc k) (suc j) x y c = joined_before ls k j x y c
