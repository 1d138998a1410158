-- Over a whole book relaxation ends with the best values, and every arc between two ranks is relaxed.
use Rattle.std.proofs.lemmas.Bool.{cases_eq}
use Rattle.pg_group.specs.Ranked.{IsOther}
use Rattle.pg_group.specs.Rounds.{marks}
use Rattle.std.proofs.Common.{◌≡◌, ◌+◌, sym, ap, inl, inr, arith, ℕ, ◌<◌, List, Option}
use Rattle.pg_base.specs.Graph.{Arc}
use Rattle.pg_group.specs.Book.{PairLists, IsWhole, IsMarked}
use Rattle.pg_label.specs.declared.values.Value.{Value}
use Rattle.pg_best.specs.declared.offers.Offer.{Offer}
use Rattle.pg_best.specs.Best.{Label, Best}
use Rattle.pg_best.specs.Parts.{IsVertex}
use Rattle.pg_best.specs.Relaxed.{Relaxed}
use Rattle.pg_best.proofs.Bridge.{at_end}
use Rattle.pg_best.proofs.Marking.{marks_at_end}
use Rattle.pg_relax.specs.Tables.{value_at}
use Rattle.pg_relax.specs.States.{part_of, due}
use Rattle.pg_relax.specs.Whole.{State, HasRelaxedOver, AreDivided, WholeIsBest, WholeIsRelaxed}
use Rattle.pg_relax.specs.Endings.{WholeEndsAlike}

module _ (label : Label) (n ranks : ℕ) (arcs : List Arc) (owner place : ℕ → ℕ) (states : ℕ → State) (sent taken : PairLists Offer) (divided : AreDivided label n ranks arcs owner place states)
    (whole : IsWhole ranks sent taken) (marked : IsMarked ranks sent) (kept : (r : ℕ) → r < ranks → HasRelaxedOver label ranks r sent taken (states r)) where
  value_of : ℕ → Option Value
  value_of v = value_at (states (owner v)).values (place v)

  outcome : ((v : ℕ) → IsVertex n v → Best label arcs v (value_of v)) × Relaxed label arcs owner place value_of sent
  unfolding value_of
  outcome =
      at_end n ranks arcs owner place (λ r. part_of (states r).part) label (λ r. value_at (states r).values)
      (λ r. due (states r).part (states r).pending (states r).takes (states r).ahead) (λ r. (states r).round) sent taken
      (λ r h. record {
        handled = (kept r h).handled;
        sent = (kept r h).promised;
        keeps = (kept r h).keeps.relaxes;
        handled_is = (kept r h).handled_is;
        sent_is = (kept r h).sent_is;
      })
      divided.size divided.joining divided.costs divided.divided whole
      (λ r h. marks_at_end (part_of (states r).part) (kept r h).handled (kept r h).promised (due (states r).part (states r).pending (states r).takes (states r).ahead)
      (states r).round (states r).cast (states r).ended (states r).sends (kept r h).keeps.marked (kept r h).ended)
      marked.rounds marked.marked marked.last

pub whole_is_best : WholeIsBest
unfolding value_of
whole_is_best label n ranks arcs owner place states sent taken divided whole marked kept = (outcome label n ranks arcs owner place states sent taken divided whole marked kept).0

pub whole_is_relaxed : WholeIsRelaxed
unfolding value_of
whole_is_relaxed label n ranks arcs owner place states sent taken divided whole marked kept = (outcome label n ranks arcs owner place states sent taken divided whole marked kept).1

pub whole_ends_alike : WholeEndsAlike
whole_ends_alike label n ranks arcs owner place states sent taken divided whole marked kept r s here there = elim (cases_eq r s) [
  | inl same ↦ ap (λ k. (states k).round) same
  | inr apart ↦ omega (arith, last_round r s here (there, λ e. apart (sym e)), last_round s r there (here, apart))
] where
  last_round : (r s : ℕ) → r < ranks → IsOther r ranks s → (states r).round + 1 ≡ marked.rounds
  last_round r s here other =
      let k = kept r here in
      let m = marks_at_end (part_of (states r).part) k.handled k.promised (due (states r).part (states r).pending (states r).takes (states r).ahead)
      (states r).round (states r).cast (states r).ended (states r).sends k.keeps.marked k.ended in
      let there : IsOther (states r).part.rank (states r).part.ranks s = omega (arith, divided.divided.rank r here, divided.divided.group r here, other.0, other.1) in
      omega (arith, m.counted s there, ap marks (k.sent_is s other), marked.marked r s here other)
