-- Each cell has at most the value of each walk to its vertex.
use Rattle.std.proofs.Common.{◌^◌, ◌≡◌, ◌≢◌, ℕ, ◌+◌, ◌*◌, ◌<◌, ◌≤◌, List, [], ◌∷◌, ◌++◌, length, length-append, refl, ap, subst, sym, ◌∙◌, inl, inr, arith, Option, Some, None, All, Contains}
use Rattle.std.proofs.Math.Nat.{mul-le-mul_right}
use Rattle.std.proofs.lemmas.Bool.{cases_lt, cases_eq}
use Rattle.std.proofs.lemmas.List.Elements.{All-contains, All-weaker}
use Rattle.std.proofs.lemmas.List.Sums.{sum_by_push, sum_by-le}
use Rattle.pg_base.specs.Graph.{Arc}
use Rattle.pg_base.specs.Walk.{IsWalk}
use Rattle.pg_base.proofs.WalkLemmas.{walks_compose}
use Rattle.pg_group.specs.declared.messages.Body.{Body}
use Rattle.pg_group.specs.declared.messages.Body.TheVariants.{Item}
use Rattle.pg_group.specs.Ranked.{IsOther}
use Rattle.pg_label.specs.declared.values.Value.{Value}
use Rattle.pg_best.specs.declared.offers.Offer.{Offer}
use Rattle.pg_label.specs.Values.{AtMost, HasAtMost, IsWithin, start_value, extended}
use Rattle.pg_best.specs.Best.{Label, cost_of, Belongs, Best}
use Rattle.pg_best.specs.Parts.{IsVertex, IsAt, local_arc}
use Rattle.pg_best.specs.LocalRelax.{IsItemAt, Fits, IsOffered}
use Rattle.pg_best.specs.Relaxation.{Run, IsRun, IsArc, IsIdle, IdleIsBest}
use Rattle.pg_label.specs.Values.{Below}
use Rattle.pg_best.proofs.ValueLemmas.{most_trans, has_most, value_in, start_most, extended_most, below_by_hops, below_by_limits, by_values}
use Rattle.pg_best.proofs.Paths.{shorten, path_length, begins_within, walk_all, last_arc}
use Rattle.pg_best.proofs.Support.{as_other, turned, cell_belongs}

module _ (label : Label) (arcs : List Arc) where
  -- the value at an arc's end belongs to the walk and the arc
  pub extended_belongs : (a : Arc) (x : Value) → Contains arcs a → Belongs label arcs a.from x → Belongs label arcs a.to (extended x (label.add a.weight))
  extended_belongs a x among b = record {
    from = b.from;
    walk = b.walk ++ a ∷ [];
    joins = walks_compose arcs b.from a.from a.to b.walk (a ∷ []) b.joins (among, refl, refl);
    started = b.started;
    amount = sum_by_push (λ (c : Arc). label.add c.weight) b.walk a ∙ ap (λ k. k + label.add a.weight) b.amount;
    hops = omega (arith, length-append b.walk (a ∷ []), b.hops);
  }

module _ (run : Run) (is : IsRun run) (idle : IsIdle run) where
  abbrev cell_of : ℕ → Option Value
  cell_of v = run.cell (run.owner v) (run.place v)

  abbrev add_of : Arc → ℕ
  add_of a = run.label.add a.weight

  arc_ends : All (λ a. (a.from ≤ run.n) × (a.to ≤ run.n)) run.arcs
  arc_ends = All-weaker (IsArc run.n) (λ a. (a.from ≤ run.n) × (a.to ≤ run.n)) (λ a h. omega (arith, h.from.last, h.to.last)) run.arcs is.arcs

  arc_costs : All (λ a. run.label.add a.weight ≤ 4294967295) run.arcs
  arc_costs = All-weaker (λ (a : Arc). run.label.add a.weight < 2 ^ 32) (λ a. run.label.add a.weight ≤ 4294967295) (λ a h. omega (arith, h)) run.arcs is.costs

  -- an offer that the home of its vertex handled has lowered the cell there
  offered : (a : Arc) (y : Value) → IsVertex run.n a.from → IsVertex run.n a.to → run.owner a.to ≢ run.owner a.from
      → IsOffered (run.sent (run.owner a.from)) (local_arc run.owner run.place a) y → HasAtMost (cell_of a.to) y
  offered a y from to apart h =
      let r = run.owner a.from in
      let s = run.owner a.to in
      let rank : r < run.ranks = is.divided.owned a.from from in
      let home : s < run.ranks = is.divided.owned a.to to in
      let other : IsOther r run.ranks s = (home, apart) in
      let back : IsOther s run.ranks r = turned run is r s rank other in
      let handled : IsItemAt (run.handled s) r h.offer = subst (λ (l : List (Body Offer)). Contains l (Item h.offer)) (sym (is.taken r s rank other)) h.among in
      let at : IsAt (run.parts s) h.offer.place h.offer.to.0 =
      subst (λ (i : ℕ). IsAt (run.parts s) i h.offer.to.0) (sym h.place) (subst (IsAt (run.parts s) (run.place a.to)) (sym h.to) (is.divided.placed a.to to)) in
      let fits : Fits (run.parts s) h.offer = record { at = at; within = (is.kept r rank).supported.within s h.offer (as_other run is r s rank other) h.among } in
      let low = (is.kept s home).bounded.lowered r h.offer (as_other run is s r home back) handled fits in
      has_most (cell_of a.to) h.offer.value y (subst (λ (i : ℕ). HasAtMost (run.cell s i) h.offer.value) h.place low) h.most

  -- a cell's value goes on along an arc where the extension exists
  passed : (a : Arc) (x : Value) → Contains run.arcs a → IsVertex run.n a.from → IsVertex run.n a.to → cell_of a.from ≡ Some x
      → IsWithin (extended x (add_of a)) → HasAtMost (cell_of a.to) (extended x (add_of a))
  passed a x among from to has within =
      let r = run.owner a.from in
      let rank : r < run.ranks = is.divided.owned a.from from in
      let mine : (run.parts r).rank ≡ r = is.divided.rank r rank in
      let b = local_arc run.owner run.place a in
      let given = is.divided.given a among in
      elim (cases_eq (run.owner a.to) r) [
        | inl same ↦
            let low = (is.kept r rank).relaxed.own b x given (idle r b rank) has within (same ∙ sym mine) in
            subst (λ (s : ℕ). HasAtMost (run.cell s (run.place a.to)) (extended x (add_of a))) (sym same) low
        | inr apart ↦
            offered a (extended x (add_of a)) from to apart ((is.kept r rank).relaxed.other b x given (idle r b rank) has within (λ e. apart (e ∙ mine)))
      ]

  -- what is shown of each value
  abbrev Reached : Value → Type 0
  Reached y = (v : ℕ) → IsVertex run.n v → Belongs run.label run.arcs v y → HasAtMost (cell_of v) y

  -- along one arc
  step_on : (a : Arc) (x y : Value) → Contains run.arcs a → IsVertex run.n a.from → IsVertex run.n a.to → cell_of a.from ≡ Some x
      → AtMost (extended x (add_of a)) y → IsWithin y → ((z : Value) → Below z y → Reached z) → HasAtMost (cell_of a.to) y
  step_on a x y among from to has most within lesser =
      let e = extended x (add_of a) in
      let belongs : Belongs run.label run.arcs a.to e = extended_belongs run.label run.arcs a x among (cell_belongs run is a.from x from has) in
      elim (cases_lt 1152921504606846976 e.amount) [
        | inl heavy ↦ has_most (cell_of a.to) e y (lesser e (below_by_limits e y most within (λ w. omega (arith, w.amount))) a.to to belongs) most
        | inr light ↦ elim (cases_lt 1048576 e.hops) [
          | inl far ↦ has_most (cell_of a.to) e y (lesser e (below_by_limits e y most within (λ w. omega (arith, w.hops))) a.to to belongs) most
          | inr near ↦ has_most (cell_of a.to) e y (passed a x among from to has (record { amount = light; hops = near })) most
        ]
      ]

  -- a walk within the limits
  short : (y : Value) → ((z : Value) → Below z y → Reached z) → IsWithin y → (v from : ℕ) (walk : List Arc) → IsVertex run.n v → IsWalk run.arcs from walk v
      → run.label.start from ≡ Some y.class → cost_of run.label walk ≡ y.amount → length walk ≡ y.hops → HasAtMost (cell_of v) y
  short y lesser within v from [] at joins started amount hops =
      let rank = is.divided.owned v at in
      let begun : run.label.start v ≡ Some y.class = subst (λ (u : ℕ). run.label.start u ≡ Some y.class) joins started in
      has_most (cell_of v) (start_value y.class) y ((is.kept (run.owner v) rank).bounded.started (run.place v) v y.class (is.divided.placed v at) begun) (start_most y)
  short y lesser within v from (first ∷ rest) at joins started amount hops =
      let end = last_arc run.arcs from first rest v joins in
      let a = end.arc in
      let ends = All-contains (IsArc run.n) run.arcs a is.arcs end.among in
      let x : Value = record { class = y.class; amount = cost_of run.label end.before; hops = length end.before } in
      let before : Belongs run.label run.arcs a.from x = record { from = from; walk = end.before; joins = end.joins; started = started; amount = refl; hops = refl } in
      let cost : y.amount ≡ cost_of run.label end.before + add_of a = sym amount ∙ (ap (cost_of run.label) end.whole ∙ sum_by_push add_of end.before a) in
      let size : y.hops ≡ length end.before + 1 = sym hops ∙ (ap length end.whole ∙ length-append end.before (a ∷ [])) in
      let low = lesser x (below_by_hops x y refl (omega arith) (omega arith)) a.from ends.from before in
      let has = value_in (cell_of a.from) x low in
      let most : AtMost (extended has.0 (add_of a)) y = most_trans (extended has.0 (add_of a)) (extended x (add_of a)) y (extended_most has.0 x (add_of a) has.2) (omega arith) in
      subst (λ (u : ℕ). HasAtMost (cell_of u) y) end.to (step_on a has.0 y end.among ends.from ends.to has.1 most within lesser)

  -- a walk with more arcs than there are vertices is no least one
  long : (y : Value) → ((z : Value) → Below z y → Reached z) → (v : ℕ) → IsVertex run.n v → (b : Belongs run.label run.arcs v y) → run.n < length b.walk → HasAtMost (cell_of v) y
  long y lesser v at b far =
      let path = shorten add_of run.arcs b.from b.walk v b.joins in
      let few = path_length run.n run.arcs arc_ends b.from path.walk v path.joins path.path (begins_within run.n run.arcs arc_ends b.from b.walk v b.joins at.last) in
      let z : Value = record { class = y.class; amount = cost_of run.label path.walk; hops = length path.walk } in
      let belongs : Belongs run.label run.arcs v z = record { from = b.from; walk = path.walk; joins = path.joins; started = b.started; amount = refl; hops = refl } in
      has_most (cell_of v) z y (lesser z (below_by_hops z y refl (omega (arith, path.cost, b.amount)) (omega (arith, b.hops))) v at belongs) (omega (arith, path.cost, b.amount, b.hops))

  costs_within : (v : ℕ) (y : Value) → (b : Belongs run.label run.arcs v y) → length b.walk ≤ run.n → IsWithin y
  costs_within v y b few =
      let total = sum_by-le add_of 4294967295 b.walk (walk_all (λ (a : Arc). run.label.add a.weight ≤ 4294967295) run.arcs arc_costs b.from b.walk v b.joins) in
      let size : length b.walk ≤ 1048576 = omega (arith, is.size) in
      let most : length b.walk * 4294967295 ≤ 1048576 * 4294967295 = mul-le-mul_right 4294967295 size in
      record { amount = omega (arith, total, most, b.amount); hops = omega (arith, b.hops) }

  reached : (y : Value) → Reached y
  reached = by_values Reached (λ y lesser v at b. elim (cases_lt run.n (length b.walk)) [
    | inl far ↦ long y lesser v at b far
    | inr near ↦ short y lesser (costs_within v y b near) v b.from b.walk at b.joins b.started b.amount b.hops
  ])

best_of : (label : Label) (arcs : List Arc) (v : ℕ) (c : Option Value) → ((x : Value) → c ≡ Some x → Belongs label arcs v x)
    → ((y : Value) → Belongs label arcs v y → HasAtMost c y) → Best label arcs v c
best_of label arcs v None belongs least = λ x b. least x b
best_of label arcs v (Some x) belongs least = record { belongs = belongs x refl; least = least }

pub idle_is_best : IdleIsBest
idle_is_best run is idle v at =
    best_of run.label run.arcs v (run.cell (run.owner v) (run.place v)) (λ x has. cell_belongs run is v x at has) (λ y b. reached run is idle y v at b)
