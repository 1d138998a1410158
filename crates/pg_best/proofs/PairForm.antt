-- Support by pairs of amount and hops, as an alternative to support by the measure: it carries the same induction.
use Rattle.std.proofs.Common.{◌≡◌, ◌⊎◌, ℕ, zero, suc, ◌<◌, ◌≤◌, List, subst, refl, inr, arith, Option, Some, Contains}
use Rattle.pg_base.specs.Graph.{Arc}
use Rattle.pg_group.specs.declared.messages.Body.{Body}
use Rattle.pg_group.specs.declared.messages.Body.TheVariants.{Item}
use Rattle.pg_group.specs.Ranked.{IsOther}
use Rattle.pg_label.specs.declared.values.Value.{Value}
use Rattle.pg_best.specs.declared.offers.Offer.{Offer}
use Rattle.pg_label.specs.Values.{IsWithin, measure}
use Rattle.pg_best.specs.Best.{Label, Belongs}
use Rattle.pg_best.specs.Parts.{Part, IsAt, Include}
use Rattle.pg_best.specs.LocalRelax.{IsItemAt, Fits}
use Rattle.pg_best.specs.Relaxation.{Run, IsRun}
use Rattle.pg_best.proofs.Support.{as_other, of_other, turned}

abbrev PairBelow : Value → ℕ → ℕ → Type 0
PairBelow x amount hops = (x.amount < amount) ⊎ ((x.amount ≡ amount) × (x.hops < hops))

abbrev PairAtMost : Value → ℕ → ℕ → Type 0
PairAtMost x amount hops = (x.amount < amount) ⊎ ((x.amount ≡ amount) × (x.hops ≤ hops))

pub record IsSupportedByPairs (label : Label) (part : Part) (handled sent : List (List (Body Offer))) (cell : ℕ → Option Value) : Type 0 where
  pub cells : (arcs : List Arc) (amount hops : ℕ) → Include arcs part
      → ((from : ℕ) (o : Offer) → IsOther part.rank part.ranks from → IsItemAt handled from o → Fits part o → PairBelow o.value amount hops → Belongs label arcs o.to.0 o.value)
      → (i v : ℕ) (x : Value) → IsAt part i v → cell i ≡ Some x → PairBelow x amount hops → Belongs label arcs v x
  pub offers : (arcs : List Arc) (amount hops : ℕ) → Include arcs part
      → ((from : ℕ) (o : Offer) → IsOther part.rank part.ranks from → IsItemAt handled from o → Fits part o → PairBelow o.value amount hops → Belongs label arcs o.to.0 o.value)
      → (to : ℕ) (o : Offer) → IsOther part.rank part.ranks to → IsItemAt sent to o → PairAtMost o.value amount hops → Belongs label arcs o.to.0 o.value

-- without the limit on hops a pair may be below another whose measure is less
lesser : (x y : Value) → PairBelow x y.amount y.hops → IsWithin x → measure x < measure y
lesser x y below within = let few = within.hops in omega arith

module _ (run : Run) (is : IsRun run) (by_pairs : (r : ℕ) → r < run.ranks → IsSupportedByPairs run.label (run.parts r) (run.handled r) (run.sent r) (run.cell r)) where
  offers_below : (b r s : ℕ) (o : Offer) → r < run.ranks → IsOther r run.ranks s → IsItemAt (run.sent r) s o → measure o.value < b → Belongs run.label run.arcs o.to.0 o.value
  offers_below zero r s o rank other sent l = absurd (omega arith)
  offers_below (suc b) r s o rank other sent l =
      (by_pairs r rank).offers run.arcs o.value.amount o.value.hops (is.divided.included r rank)
      (λ from h away handled fits m.
      let away' : IsOther r run.ranks from = of_other run is r from rank away in
      let back = turned run is r from rank away' in
      let less = lesser h.value o.value m fits.within in
      offers_below b from r h away'.0 back (subst (λ (l : List (Body Offer)). Contains l (Item h)) (is.taken from r away'.0 back) handled) (omega arith))
      s o (as_other run is r s rank other) sent (inr (refl, omega arith))
