-- A whole run of relaxations over a divided list of arcs, and what its values are.
-- Source: Gregor and Lumsdaine, Lifting sequential graph algorithms for distributed-memory parallel computation (OOPSLA
-- 2005).
use Rattle.std.specs.Prelude.{◌≡◌, ℕ, ◌^◌, ◌<◌, ◌≤◌, Bool, true, Option, List, All}
use Rattle.pg_base.specs.declared.TheConstants.{MAX_VERTICES}
use Rattle.pg_base.specs.Graph.{Arc}
use Rattle.pg_group.specs.declared.messages.Body.{Body}
use Rattle.pg_group.specs.declared.messages.Vote.{Vote}
use Rattle.pg_group.specs.Book.{PairLists, IsWhole, IsMarked}
use Rattle.pg_group.specs.Ranked.{IsOther, list_at}
use Rattle.pg_label.specs.declared.values.Value.{Value}
use Rattle.pg_agenda.specs.Shares.{Places}
use Rattle.pg_adj.specs.Portions.{Portion}
use Rattle.pg_best.specs.declared.offers.Offer.{Offer}
use Rattle.pg_best.specs.Best.{Label, Best}
use Rattle.pg_best.specs.Parts.{IsVertex, IsDivided}
use Rattle.pg_best.specs.Relaxed.{Relaxed}
use Rattle.pg_best.specs.Relaxation.{IsArc}
use Rattle.pg_relax.specs.declared.ahead.Ahead.{Ahead}
use Rattle.pg_relax.specs.Tables.{value_at}
use Rattle.pg_relax.specs.States.{part_of}
use Rattle.pg_relax.specs.Kept.{HasRelaxed}

-- What a rank shows.
pub record State : Type 0 where
  pub part : Portion
  pub takes : Places
  pub values : List Value
  pub pending : Places
  pub ahead : Option Ahead
  pub round : ℕ
  pub cast : Option Vote
  pub ended : Bool
  pub sends : Bool

-- The rank has ended, and kept its promise over the lists of the book.
pub record HasRelaxedOver (label : Label) (ranks rank : ℕ) (sent taken : PairLists Offer) (s : State) : Type 0 where
  pub handled : List (List (Body Offer))
  pub promised : List (List (Body Offer))
  pub ended : s.ended ≡ true
  pub keeps : HasRelaxed label s.part s.takes handled promised s.values s.pending s.ahead s.round s.cast s.ended s.sends
  pub handled_is : (from : ℕ) → IsOther rank ranks from → list_at handled from ≡ taken from rank
  pub sent_is : (to : ℕ) → IsOther rank ranks to → list_at promised to ≡ sent rank to

-- The arcs join at most 1,048,576 vertices, no arc costs more than the greatest weight, and the arcs are divided among
-- the ranks' parts.
pub record AreDivided (label : Label) (n ranks : ℕ) (arcs : List Arc) (owner place : ℕ → ℕ) (states : ℕ → State) : Type 0 where
  pub size : n ≤ MAX_VERTICES
  pub joining : All (IsArc n) arcs
  pub costs : All (λ a. label.add a.weight < 2 ^ 32) arcs
  pub divided : IsDivided n ranks arcs owner place (λ r. part_of (states r).part)

-- Over a whole book, where all ranks have ended, each vertex has at its owner the least value of a walk that leads to
-- it.
abbrev pub WholeIsBest : Type 0
WholeIsBest = (label : Label) (n ranks : ℕ) (arcs : List Arc) (owner place : ℕ → ℕ) (states : ℕ → State) (sent taken : PairLists Offer)
    → AreDivided label n ranks arcs owner place states → IsWhole ranks sent taken → IsMarked ranks sent
    → ((r : ℕ) → r < ranks → HasRelaxedOver label ranks r sent taken (states r))
    → (v : ℕ) → IsVertex n v → Best label arcs v (value_at (states (owner v)).values (place v))

-- Likewise each arc between two ranks is relaxed by an offer that the book holds.
abbrev pub WholeIsRelaxed : Type 0
WholeIsRelaxed = (label : Label) (n ranks : ℕ) (arcs : List Arc) (owner place : ℕ → ℕ) (states : ℕ → State) (sent taken : PairLists Offer)
    → AreDivided label n ranks arcs owner place states → IsWhole ranks sent taken → IsMarked ranks sent
    → ((r : ℕ) → r < ranks → HasRelaxedOver label ranks r sent taken (states r))
    → Relaxed label arcs owner place (λ v. value_at (states (owner v)).values (place v)) sent
