-- Every value of a whole run belongs to a walk: induction on the measure.
use Rattle.std.proofs.Common.{◌≡◌, ℕ, zero, suc, ◌<◌, List, subst, arith, Some, Contains}
use Rattle.pg_group.specs.declared.messages.Body.{Body}
use Rattle.pg_group.specs.declared.messages.Body.TheVariants.{Item}
use Rattle.pg_group.specs.Ranked.{IsOther}
use Rattle.pg_label.specs.declared.values.Value.{Value}
use Rattle.pg_best.specs.declared.offers.Offer.{Offer}
use Rattle.pg_label.specs.Values.{measure}
use Rattle.pg_best.specs.Best.{Belongs}
use Rattle.pg_best.specs.Parts.{IsVertex}
use Rattle.pg_best.specs.LocalRelax.{IsItemAt}
use Rattle.pg_best.specs.Relaxation.{Run, IsRun}

module _ (run : Run) (is : IsRun run) where
  -- another rank of the run is one of the rank's part
  pub as_other : (r s : ℕ) → r < run.ranks → IsOther r run.ranks s → IsOther (run.parts r).rank (run.parts r).ranks s
  as_other r s rank other = omega (arith, is.divided.rank r rank, is.divided.group r rank)

  pub of_other : (r s : ℕ) → r < run.ranks → IsOther (run.parts r).rank (run.parts r).ranks s → IsOther r run.ranks s
  of_other r s rank other = omega (arith, is.divided.rank r rank, is.divided.group r rank)

  pub turned : (r s : ℕ) → r < run.ranks → IsOther r run.ranks s → IsOther s run.ranks r
  turned r s rank other = omega arith

  -- each offer sent with a measure below b belongs to a walk
  offers_below : (b r s : ℕ) (o : Offer) → r < run.ranks → IsOther r run.ranks s → IsItemAt (run.sent r) s o → measure o.value < b → Belongs run.label run.arcs o.to.0 o.value
  offers_below zero r s o rank other sent l = absurd (omega arith)
  offers_below (suc b) r s o rank other sent l =
      (is.kept r rank).supported.offers run.arcs b (is.divided.included r rank)
      (λ from h away handled fits m.
      let away' : IsOther r run.ranks from = of_other r from rank away in
      let back = turned r from rank away' in
      offers_below b from r h away'.0 back (subst (λ (l : List (Body Offer)). Contains l (Item h)) (is.taken from r away'.0 back) handled) m)
      s o (as_other r s rank other) sent (omega arith)

  -- Each cell's value belongs to a walk.
  pub cell_belongs : (v : ℕ) (x : Value) → IsVertex run.n v → run.cell (run.owner v) (run.place v) ≡ Some x → Belongs run.label run.arcs v x
  cell_belongs v x at has =
      let r = run.owner v in
      let rank : r < run.ranks = is.divided.owned v at in
      (is.kept r rank).supported.cells run.arcs (suc (measure x)) (is.divided.included r rank)
      (λ from h away handled fits m.
      let away' : IsOther r run.ranks from = of_other r from rank away in
      let back = turned r from rank away' in
      offers_below (suc (measure x)) from r h away'.0 back (subst (λ (l : List (Body Offer)). Contains l (Item h)) (is.taken from r away'.0 back) handled) m)
      (run.place v) v x (is.divided.placed v at) has (omega arith)
