-- A whole run, with each rank's part, passes and lists as functions of the rank, and what its rounds are.
use Rattle.std.proofs.Common.{◌≡◌, ◌≢◌, ◌⊎◌, ℕ, suc, ◌<◌, ◌≤◌, true, List, [], Some, slice_get, refl, sym, ◌∙◌, ap, subst, inl, inr, arith}
use Rattle.std.proofs.lemmas.Bool.{cases_lt, cases_eq}
use Rattle.std.proofs.lemmas.Option.{same_Some}
use Rattle.pg_base.specs.Graph.{Graph, IsGraph}
use Rattle.pg_dist.specs.Sharing.{Sharing, IsSharing}
use Rattle.pg_group.specs.declared.messages.Body.{Body}
use Rattle.pg_group.specs.Book.{PairLists}
use Rattle.pg_group.specs.Ranked.{IsOther, list_at}
use Rattle.pg_group.specs.Rounds.{marks}
use Rattle.pg_adj.specs.Portions.{Portion}
use Rattle.pg_adj.specs.Division.{Divided}
use Rattle.pg_cells.specs.declared.bodies.CellBody.{CellBody}
use Rattle.pg_colour.specs.Passes.{no_colours}
use Rattle.pg_colour.specs.Refreshed.{AreRefreshes, AreSound}
use Rattle.pg_colour.specs.LocalColour.{State, History, AreCounted, KeepsPasses}
use Rattle.pg_colour.specs.Whole.{HasEndedOver, IsWholeRun, AreHistories}
use Rattle.pg_colour.proofs.Neighbours.{rank_below, part_of_rank, rank_is, ranks_are}

-- What is known of each rank.
pub record Kept (s : Sharing) (g : Graph) (parts : List Portion) (states : ℕ → State) (sent : PairLists CellBody)
    (part : ℕ → Portion) (history : ℕ → History) (handled promised : ℕ → List (List (Body CellBody))) : Type 0 where
  pub sharing : IsSharing s
  pub graph : IsGraph g
  pub vertices : g.n ≡ s.n
  pub divided : Divided s g parts
  pub there : (r : ℕ) → r < s.ranks → slice_get parts r ≡ Some (part r)
  pub ended : (r : ℕ) → r < s.ranks → (states r).ended ≡ true
  pub counted : (r : ℕ) → r < s.ranks → AreCounted (part r) (handled r) (promised r) (states r)
  pub refreshes : (r : ℕ) → r < s.ranks → AreRefreshes (part r) (promised r)
  pub coloured : (r : ℕ) → r < s.ranks → AreSound (part r) (handled r) → KeepsPasses (part r) (handled r) (promised r) (history r) (states r)
  pub other : (r q : ℕ) → r < s.ranks → IsOther r s.ranks q → IsOther (part r).rank (part r).ranks q
  pub back : (r q : ℕ) → r < s.ranks → IsOther (part r).rank (part r).ranks q → IsOther r s.ranks q
  pub was_sent : (r q : ℕ) → r < s.ranks → IsOther r s.ranks q → list_at (promised r) q ≡ sent r q
  pub taken : (r q : ℕ) → r < s.ranks → IsOther r s.ranks q → list_at (handled q) r ≡ list_at (promised r) q
  pub same_round : (r : ℕ) → r < s.ranks → (states r).round ≡ (states 0).round

pub turned : (ranks r s : ℕ) → r < ranks → IsOther r ranks s → IsOther s ranks r
turned ranks r s h other = (h, λ same. other.1 (sym same))

no_part : Portion
no_part = record { rank = 0; ranks = 0; n = 0; vertices = []; bounds = []; arcs = []; ghosts = []; holder_bounds = []; holders = [] }

no_history : History
no_history = record { list = λ j. []; own = λ j. no_colours }

module _ (s : Sharing) (g : Graph) (parts : List Portion) (states : ℕ → State) (sent taken : PairLists CellBody) (run : IsWholeRun s g parts states sent taken) where
  found : (r : ℕ) → r < s.ranks → (p : Portion) × (slice_get parts r ≡ Some p)
  found r h = part_of_rank s g parts run.sharing run.graph run.vertices run.divided r h

  pub part_by : (r : ℕ) → (r < s.ranks) ⊎ (s.ranks ≤ r) → Portion
  part_by r (inl h) = (found r h).0
  part_by r (inr h) = no_part

  there_by : (r : ℕ) (c : (r < s.ranks) ⊎ (s.ranks ≤ r)) → r < s.ranks → slice_get parts r ≡ Some (part_by r c)
  unfolding part_by
  there_by r (inl h) l = (found r h).1
  there_by r (inr h) l = absurd (omega arith)

  -- Some histories.
  pub history_by : (r : ℕ) → (r < s.ranks) ⊎ (s.ranks ≤ r) → History
  history_by r (inl h) = (run.kept r (found r h).0 (found r h).1).keeps.history
  history_by r (inr h) = no_history

  history_of : (r : ℕ) (c : (r < s.ranks) ⊎ (s.ranks ≤ r)) → r < s.ranks
      → (kept : HasEndedOver s.ranks r sent taken (part_by r c) (states r)) × (kept.keeps.history ≡ history_by r c)
  unfolding part_by history_by
  history_of r (inl h) l = (run.kept r (found r h).0 (found r h).1, refl)
  history_of r (inr h) l = absurd (omega arith)

  pub are_histories : AreHistories s parts states sent taken (λ r. history_by r (cases_lt r s.ranks))
  are_histories r p at =
      let h = rank_below s g parts run.sharing run.graph run.vertices run.divided r p at in
      let is : part_by r (cases_lt r s.ranks) ≡ p = same_Some (part_by r (cases_lt r s.ranks)) p (sym (there_by r (cases_lt r s.ranks) h) ∙ at) in
      subst (λ (x : Portion). (kept : HasEndedOver s.ranks r sent taken x (states r)) × (kept.keeps.history ≡ history_by r (cases_lt r s.ranks))) is (history_of r (cases_lt r s.ranks) h)

  module _ (histories : ℕ → History) (are : AreHistories s parts states sent taken histories) where
    over : (r : ℕ) (h : r < s.ranks) → HasEndedOver s.ranks r sent taken (found r h).0 (states r)
    over r h = (are r (found r h).0 (found r h).1).0

    pub handled_by : (r : ℕ) → (r < s.ranks) ⊎ (s.ranks ≤ r) → List (List (Body CellBody))
    handled_by r (inl h) = (over r h).handled
    handled_by r (inr h) = []

    pub promised_by : (r : ℕ) → (r < s.ranks) ⊎ (s.ranks ≤ r) → List (List (Body CellBody))
    promised_by r (inl h) = (over r h).promised
    promised_by r (inr h) = []

    ended_by : (r : ℕ) → r < s.ranks → (states r).ended ≡ true
    ended_by r h = (over r h).ended

    counted_by : (r : ℕ) (c : (r < s.ranks) ⊎ (s.ranks ≤ r)) → r < s.ranks → AreCounted (part_by r c) (handled_by r c) (promised_by r c) (states r)
    unfolding part_by handled_by promised_by
    counted_by r (inl h) l = (over r h).keeps.counted
    counted_by r (inr h) l = absurd (omega arith)

    refreshes_by : (r : ℕ) (c : (r < s.ranks) ⊎ (s.ranks ≤ r)) → r < s.ranks → AreRefreshes (part_by r c) (promised_by r c)
    unfolding part_by promised_by
    refreshes_by r (inl h) l = (over r h).keeps.refreshes
    refreshes_by r (inr h) l = absurd (omega arith)

    coloured_by : (r : ℕ) (c : (r < s.ranks) ⊎ (s.ranks ≤ r)) → r < s.ranks → AreSound (part_by r c) (handled_by r c)
        → KeepsPasses (part_by r c) (handled_by r c) (promised_by r c) (histories r) (states r)
    unfolding part_by handled_by promised_by over
    coloured_by r (inl h) l sound =
        subst (λ (x : History). KeepsPasses (found r h).0 (over r h).handled (over r h).promised x (states r)) (are r (found r h).0 (found r h).1).1 ((over r h).keeps.coloured sound)
    coloured_by r (inr h) l sound = absurd (omega arith)

    handled_is : (r from : ℕ) (c : (r < s.ranks) ⊎ (s.ranks ≤ r)) → r < s.ranks → IsOther r s.ranks from → list_at (handled_by r c) from ≡ taken from r
    unfolding handled_by
    handled_is r from (inl h) l other = (over r h).handled_is from other
    handled_is r from (inr h) l other = absurd (omega arith)

    pub handled_is_taken : (r from : ℕ) → r < s.ranks → IsOther r s.ranks from → list_at (handled_by r (cases_lt r s.ranks)) from ≡ taken from r
    handled_is_taken r from l other = handled_is r from (cases_lt r s.ranks) l other

    promised_is : (r to : ℕ) (c : (r < s.ranks) ⊎ (s.ranks ≤ r)) → r < s.ranks → IsOther r s.ranks to → list_at (promised_by r c) to ≡ sent r to
    unfolding promised_by
    promised_is r to (inl h) l other = (over r h).sent_is to other
    promised_is r to (inr h) l other = absurd (omega arith)

    module _ (r : ℕ) (h : r < s.ranks) where
      abbrev p : Portion
      p = part_by r (cases_lt r s.ranks)

      at_rank : slice_get parts r ≡ Some p
      at_rank = there_by r (cases_lt r s.ranks) h

      rank_same : p.rank ≡ r
      rank_same = rank_is s g parts run.sharing run.graph run.vertices run.divided r p at_rank

      ranks_same : p.ranks ≡ s.ranks
      ranks_same = ranks_are s g parts run.sharing run.graph run.vertices run.divided r p at_rank

      as_other : (q : ℕ) → IsOther r s.ranks q → IsOther p.rank p.ranks q
      as_other q other = (omega (arith, other.0, ranks_same), λ same. other.1 (same ∙ rank_same))

      other_back : (q : ℕ) → IsOther p.rank p.ranks q → IsOther r s.ranks q
      other_back q other = (omega (arith, other.0, ranks_same), λ same. other.1 (same ∙ sym rank_same))

    ended_at : (r q : ℕ) → r < s.ranks → IsOther r s.ranks q → suc (states r).round ≡ run.marked.rounds
    ended_at r q h other =
        let back = turned s.ranks r q h other in
        sym ((counted_by r (cases_lt r s.ranks) h).closed (ended_by r h) q (as_other r h q other))
        ∙ (ap marks (handled_is r q (cases_lt r s.ranks) h other ∙ run.whole q r other.0 back) ∙ run.marked.marked q r other.0 back)

    round_same : (r : ℕ) → r < s.ranks → (r ≡ 0) ⊎ (r ≢ 0) → (states r).round ≡ (states 0).round
    round_same r h (inl same) = ap (λ (x : ℕ). (states x).round) same
    round_same r h (inr apart) =
        let pos : 0 < s.ranks = omega arith in
        omega (arith, ended_at r 0 h (pos, λ e. apart (sym e)), ended_at 0 r pos (h, apart))

    pub is_kept : Kept s g parts states sent (λ r. part_by r (cases_lt r s.ranks)) histories (λ r. handled_by r (cases_lt r s.ranks)) (λ r. promised_by r (cases_lt r s.ranks))
    is_kept = record {
      sharing = run.sharing;
      graph = run.graph;
      vertices = run.vertices;
      divided = run.divided;
      there = λ r h. there_by r (cases_lt r s.ranks) h;
      ended = ended_by;
      counted = λ r h. counted_by r (cases_lt r s.ranks) h;
      refreshes = λ r h. refreshes_by r (cases_lt r s.ranks) h;
      coloured = λ r h. coloured_by r (cases_lt r s.ranks) h;
      other = λ r q h other. as_other r h q other;
      back = λ r q h other. other_back r h q other;
      was_sent = λ r q h other. promised_is r q (cases_lt r s.ranks) h other;
      taken = λ r q h other.
          handled_is q r (cases_lt q s.ranks) other.0 (turned s.ranks r q h other)
          ∙ (run.whole r q h other ∙ sym (promised_is r q (cases_lt r s.ranks) h other));
      same_round = λ r h. round_same r h (cases_eq r 0);
    }
