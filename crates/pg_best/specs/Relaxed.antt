-- What the lists of messages hold once every arc between two ranks is relaxed.
-- Source: Gregor and Lumsdaine, Lifting sequential graph algorithms for distributed-memory parallel computation
-- (OOPSLA 2005), section 4.
use Rattle.std.specs.Prelude.{◌≡◌, ◌≢◌, ℕ, Option, Some, List, Contains}
use Rattle.pg_base.specs.Graph.{Arc}
use Rattle.pg_group.specs.declared.messages.Body.{Body}
use Rattle.pg_group.specs.declared.messages.Body.TheVariants.{Item}
use Rattle.pg_group.specs.Book.{PairLists}
use Rattle.pg_label.specs.declared.values.Value.{Value}
use Rattle.pg_label.specs.Values.{AtMost, IsWithin, extended}
use Rattle.pg_best.specs.declared.offers.Offer.{Offer}
use Rattle.pg_best.specs.Best.{Label}

-- The list holds an offer to the vertex at this place, of at most this value.
pub record HoldsOffer (list : List (Body Offer)) (v place : ℕ) (most : Value) : Type 0 where
  pub offer : Offer
  pub among : Contains list (Item offer)
  pub to : offer.to.0 ≡ v
  pub at : offer.place ≡ place
  pub value : AtMost offer.value most

-- For each arc from u to v whose owners differ, where u has a value x and the extension of x by the arc is within the
-- limits, the list that the owner of u sent to that of v holds an offer to v, at its place, of at most that extension.
abbrev pub Relaxed : Label → List Arc → (ℕ → ℕ) → (ℕ → ℕ) → (ℕ → Option Value) → PairLists Offer → Type 0
Relaxed label arcs owner place value sent =
    (a : Arc) (x : Value) → Contains arcs a → owner a.to ≢ owner a.from → value a.from ≡ Some x → IsWithin (extended x (label.add a.weight))
    → HoldsOffer (sent (owner a.from) (owner a.to)) a.to (place a.to) (extended x (label.add a.weight))
