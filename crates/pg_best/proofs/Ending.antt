-- At the end of a whole run no arc is due.
use Rattle.std.proofs.Common.{◌≡◌, ℕ, ◌<◌, ◌≤◌, ◌%◌, false, List, [], subst, sym, inl, inr, arith, Some, Contains}
use Rattle.std.proofs.lemmas.Bool.{cases_lt, cases_Bool}
use Rattle.pg_group.specs.declared.messages.Body.{Body}
use Rattle.pg_group.specs.Ranked.{IsOther, list_at}
use Rattle.pg_group.specs.Rounds.{marks, votes_of, items_of_round}
use Rattle.std.specs.Prelude.{slice_get}
use Rattle.pg_best.specs.declared.offers.Offer.{Offer}
use Rattle.pg_best.specs.Parts.{LocalArc}
use Rattle.pg_best.specs.LocalRelax.{HasItemFrom}
use Rattle.pg_best.specs.Relaxation.{Run, IsRun, HasEnded, EndIsIdle}
use Rattle.pg_best.proofs.Rounds.{vote_of_mark, none_past}
use Rattle.pg_best.proofs.Support.{as_other, of_other, turned}

-- a list with an item is not empty
none_in : (items : List Offer) (o : Offer) → items ≡ [] → Contains items o → ⊥
none_in items o e c = let empty : Contains [] o = subst (λ (l : List Offer). Contains l o) e c in omega (arith, empty)

even_zero : (b : ℕ) → b ≡ 0 → b % 2 ≡ 0
even_zero b e = omega arith

module _ (run : Run) (is : IsRun run) (end : HasEnded run) where
  -- in the round with which a rank ended, and later, no item stands on a list to it
  none_left : (r s k : ℕ) → r < run.ranks → IsOther r run.ranks s → run.last r ≤ k → items_of_round k (list_at (run.handled r) s) ≡ []
  none_left r s k rank other late =
      let back = turned run is r s rank other in
      let same = is.taken s r other.0 back in
      let kept = end.kept r rank in
      let counted = kept.counted s (as_other run is r s rank other) in
      let mine = end.marked r s rank other in
      let theirs = end.marked s r other.0 back in
      subst (λ (l : List (Body Offer)). items_of_round k l ≡ []) (sym same) (elim (cases_lt k (marks (list_at (run.sent s) r))) [
        | inl low ↦
            let at : run.last r ≡ k = omega arith in
            let vote = vote_of_mark (list_at (run.sent s) r) k low in
            let cast : slice_get (votes_of (list_at (run.handled r) s)) (run.last r) ≡ Some vote.0 =
            subst (λ (l : List (Body Offer)). slice_get (votes_of l) (run.last r) ≡ Some vote.0) (sym same)
            (subst (λ (j : ℕ). slice_get (votes_of (list_at (run.sent s) r)) j ≡ Some vote.0) (sym at) vote.1) in
            let empty = kept.ended s vote.0 (as_other run is r s rank other) cast in
            ((end.kept s other.0).even r k vote.0 (as_other run is s r other.0 back) vote.1).0 (even_zero vote.0.b empty.1)
            r (as_other run is s r other.0 back)
        | inr past ↦ none_past (list_at (run.sent s) r) k (end.last s r other.0 back) past
      ])

  none_handled : (r : ℕ) → r < run.ranks → HasItemFrom (run.parts r) (run.handled r) (run.last r) → ⊥
  none_handled r rank h =
      none_in (items_of_round h.later (list_at (run.handled r) h.rank)) h.item (none_left r h.rank h.later rank (of_other run is r h.rank rank h.other) h.from) h.among

  none_due : (r : ℕ) (a : LocalArc) → r < run.ranks → run.due r a ≡ false
  none_due r a rank = elim (cases_Bool (run.due r a)) [
    | inl busy ↦ absurd (none_handled r rank ((end.kept r rank).left a busy))
    | inr idle ↦ idle
  ]

pub end_is_idle : EndIsIdle
end_is_idle run is end r a rank = none_due run is end r a rank
