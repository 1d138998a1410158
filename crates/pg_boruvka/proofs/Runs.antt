-- A whole run, with each rank's lists as functions of the rank, and what its rounds are.
use Rattle.std.proofs.Common.{◌≡◌, ◌≢◌, ◌⊎◌, ℕ, suc, ◌<◌, ◌≤◌, true, List, [], sym, ◌∙◌, ap, inl, inr, arith, All}
use Rattle.pg_base.specs.declared.TheConstants.{MAX_WEIGHT}
use Rattle.std.proofs.lemmas.Bool.{cases_lt, cases_eq}
use Rattle.pg_base.specs.Graph.{Graph, IsGraph}
use Rattle.pg_group.specs.declared.messages.Body.{Body}
use Rattle.pg_group.specs.Book.{PairLists}
use Rattle.pg_group.specs.Ranked.{IsOther, list_at}
use Rattle.pg_group.specs.Rolls.{voted}
use Rattle.pg_group.specs.Rounds.{marks}
use Rattle.pg_boruvka.specs.declared.messages.Message.{Message}
use Rattle.pg_boruvka.specs.Parts.{Part, IsDivided}
use Rattle.pg_boruvka.specs.LocalDense.{State, LocalDense}
use Rattle.pg_boruvka.specs.Whole.{IsRun}

pub record Kept (far : ℕ) (g : Graph) (ranks : ℕ) (parts : ℕ → Part) (states : ℕ → State) (handled promised : ℕ → List (List (Body Message))) : Type 0 where
  pub graph : IsGraph g
  pub weights : All (λ e. e.w ≤ MAX_WEIGHT) g.edges
  pub far_enough : g.n ≤ far
  pub divided : IsDivided g ranks parts
  pub ended : (r : ℕ) → r < ranks → (states r).ended ≡ true
  pub keeps : (r : ℕ) → r < ranks → LocalDense far (parts r) (handled r) (promised r) (states r)
  pub own_handled : (r : ℕ) → r < ranks → list_at (handled r) r ≡ []
  pub taken : (r s : ℕ) → r < ranks → IsOther r ranks s → list_at (handled s) r ≡ list_at (promised r) s
  pub last : ℕ
  pub round_is : (r : ℕ) → r < ranks → (states r).round ≡ last
  pub voted_is : (r s : ℕ) → r < ranks → IsOther r ranks s → last < voted (states r).round (states r).cast

pub turned : (ranks r s : ℕ) → r < ranks → IsOther r ranks s → IsOther s ranks r
turned ranks r s h other = (h, λ same. other.1 (sym same))

module _ (far : ℕ) (g : Graph) (ranks : ℕ) (parts : ℕ → Part) (states : ℕ → State) (sent taken : PairLists Message) (run : IsRun far g ranks parts states sent taken) where
  pub handled_by : (r : ℕ) → (r < ranks) ⊎ (ranks ≤ r) → List (List (Body Message))
  handled_by r (inl h) = (run.kept r h).handled
  handled_by r (inr h) = []

  pub promised_by : (r : ℕ) → (r < ranks) ⊎ (ranks ≤ r) → List (List (Body Message))
  promised_by r (inl h) = (run.kept r h).promised
  promised_by r (inr h) = []

  keeps_by : (r : ℕ) (c : (r < ranks) ⊎ (ranks ≤ r)) → r < ranks → LocalDense far (parts r) (handled_by r c) (promised_by r c) (states r)
  unfolding handled_by promised_by
  keeps_by r (inl h) l = (run.kept r h).keeps
  keeps_by r (inr h) l = absurd (omega arith)

  own_by : (r : ℕ) (c : (r < ranks) ⊎ (ranks ≤ r)) → r < ranks → list_at (handled_by r c) r ≡ []
  unfolding handled_by
  own_by r (inl h) l = (run.kept r h).own_handled
  own_by r (inr h) l = absurd (omega arith)

  handled_is : (r from : ℕ) (c : (r < ranks) ⊎ (ranks ≤ r)) → r < ranks → IsOther r ranks from → list_at (handled_by r c) from ≡ taken from r
  unfolding handled_by
  handled_is r from (inl h) l other = (run.kept r h).handled_is from other
  handled_is r from (inr h) l other = absurd (omega arith)

  promised_is : (r to : ℕ) (c : (r < ranks) ⊎ (ranks ≤ r)) → r < ranks → IsOther r ranks to → list_at (promised_by r c) to ≡ sent r to
  unfolding promised_by
  promised_is r to (inl h) l other = (run.kept r h).sent_is to other
  promised_is r to (inr h) l other = absurd (omega arith)

  as_other : (r s : ℕ) → r < ranks → IsOther r ranks s → IsOther (parts r).rank (parts r).ranks s
  as_other r s h other = (omega (arith, other.0, run.divided.group r h), λ same. other.1 (same ∙ run.divided.rank r h))

  voted_all : (r s : ℕ) → r < ranks → IsOther r ranks s → voted (states r).round (states r).cast ≡ run.marked.rounds
  voted_all r s h other =
      sym ((keeps_by r (cases_lt r ranks) h).counted.given s (as_other r s h other))
      ∙ (ap marks (promised_is r s (cases_lt r ranks) h other) ∙ run.marked.marked r s h other)

  ended_at : (r s : ℕ) → r < ranks → IsOther r ranks s → suc (states r).round ≡ run.marked.rounds
  ended_at r s h other =
      let back = turned ranks r s h other in
      sym ((keeps_by r (cases_lt r ranks) h).counted.closed (run.kept r h).ended s (as_other r s h other))
      ∙ (ap marks (handled_is r s (cases_lt r ranks) h other ∙ run.whole s r other.0 back) ∙ run.marked.marked s r other.0 back)

  round_same : (r : ℕ) → r < ranks → (r ≡ 0) ⊎ (r ≢ 0) → (states r).round ≡ (states 0).round
  round_same r h (inl same) = ap (λ (x : ℕ). (states x).round) same
  round_same r h (inr apart) =
      let pos : 0 < ranks = omega arith in
      omega (arith, ended_at r 0 h (pos, λ e. apart (sym e)), ended_at 0 r pos (h, apart))

  pub is_kept : Kept far g ranks parts states (λ r. handled_by r (cases_lt r ranks)) (λ r. promised_by r (cases_lt r ranks))
  is_kept = record {
    graph = run.graph;
    weights = run.weights;
    far_enough = run.far_enough;
    divided = run.divided;
    ended = λ r h. (run.kept r h).ended;
    keeps = λ r h. keeps_by r (cases_lt r ranks) h;
    own_handled = λ r h. own_by r (cases_lt r ranks) h;
    taken = λ r s h other.
        handled_is s r (cases_lt s ranks) other.0 (turned ranks r s h other)
        ∙ (run.whole r s h other ∙ sym (promised_is r s (cases_lt r ranks) h other));
    last = (states 0).round;
    round_is = λ r h. round_same r h (cases_eq r 0);
    voted_is = λ r s h other. omega (arith, voted_all r s h other, ended_at r s h other, round_same r h (cases_eq r 0));
  }
