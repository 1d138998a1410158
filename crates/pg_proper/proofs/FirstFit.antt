-- One rank colours its vertices as first fit does in ascending order.
use Rattle.std.proofs.Common.{◌≡◌, ◌≢◌, ℕ, zero, suc, ◌<◌, ◌≤◌, List, [], ◌∷◌, Some, sym, ◌∙◌, ap, subst, refl, ⊎_elim, arith, All, AllPairs, Contains}
use Rattle.std.proofs.lemmas.List.Elements.{All-contains}
use Rattle.pg_base.specs.declared.edges.Edge.{Edge}
use Rattle.pg_base.specs.Graph.{IsEdge}
use Rattle.pg_base.proofs.Members.{contains_first, contains_later}
use Rattle.pg_base.specs.Colouring.{AreJoined}
use Rattle.pg_proper.specs.Passes.{Passes, Colours, IsLeastFree, with_colour}
use Rattle.pg_proper.specs.Runs.{Run, IsRun, known, IsAnswer}
use Rattle.pg_proper.specs.RunLaws.{OneRankIsFirstFit}
use Rattle.pg_proper.proofs.PassLemmas.{some_same, at_other, colour_cases}
use Rattle.pg_proper.proofs.Rounds.{none_some, known_own, pass_none, at_home}

-- The colour c of v is the least that no lesser neighbour has.
record FitsAt (edges : List Edge) (colours : Colours) (v c : ℕ) : Type 0 where
  free : (u : ℕ) → AreJoined edges v u → u < v → colours u ≡ Some c → ⊥
  least : (d : ℕ) → d < c → (u : ℕ) × (u < v) × AreJoined edges v u × (colours u ≡ Some d)

-- Each colour fits, and what has a colour comes before all that is left on the list.
record Filled (edges : List Edge) (list : List ℕ) (colours : Colours) : Type 0 where
  fits : (v c : ℕ) → colours v ≡ Some c → FitsAt edges colours v c
  past : (v x c : ℕ) → colours v ≡ Some c → Contains list x → v < x

head_below : (x : ℕ) (list : List ℕ) → AllPairs (λ v w. v < w) (x ∷ list) → (y : ℕ) → Contains list y → x < y
head_below x list ascends y among = subst (λ (z : ℕ). x < z) among.2 (ascends 0 (suc among.0) y (omega arith) (omega (arith, among.1)))

tail_ascends : (x : ℕ) (list : List ℕ) → AllPairs (λ v w. v < w) (x ∷ list) → AllPairs (λ v w. v < w) list
tail_ascends x list ascends i j d less within = ascends (suc i) (suc j) d (omega arith) (omega arith)

-- A colour for a vertex past v leaves what fits at v.
kept_fit : (edges : List Edge) (before : Colours) (x k v c : ℕ) → v ≤ x → FitsAt edges before v c
    → FitsAt edges (with_colour before x k) v c
kept_fit edges before x k v c low fit = record {
  free = λ u joined less at. fit.free u joined less (sym (at_other before x k u (λ e. omega (arith, e, less, low))) ∙ at);
  least = λ d less. let t = fit.least d less in (t.0, t.1, t.2, at_other before x k t.0 (λ e. omega (arith, e, t.1, low)) ∙ t.3);
}

-- The colour that x takes fits among the colours before.
new_fit : (edges : List Edge) (list : List ℕ) (before : Colours) (x c : ℕ) → Filled edges (x ∷ list) before
    → IsLeastFree edges before x c → FitsAt edges before x c
new_fit edges list before x c filled takes = record {
  free = λ u joined less at. takes.free (record { neighbour = u; joined = joined; has = at });
  least = λ d less. let t = takes.least d less in (t.neighbour, filled.past t.neighbour x d t.has (contains_first x list), t.joined, t.has);
}

filled_step : (edges : List Edge) (list : List ℕ) (before : Colours) (x c : ℕ) → AllPairs (λ v w. v < w) (x ∷ list)
    → IsLeastFree edges before x c → Filled edges (x ∷ list) before → Filled edges list (with_colour before x c)
filled_step edges list before x c ascends takes filled = record {
  fits = λ v d at. ⊎_elim
      (λ here. kept_fit edges before x c v d (omega (arith, here.0))
      (subst (λ (k : ℕ). FitsAt edges before v k) here.1 (subst (λ (y : ℕ). FitsAt edges before y c) (sym here.0) (new_fit edges list before x c filled takes))))
      (λ there. let less = filled.past v x d there.1 (contains_first x list) in kept_fit edges before x c v d (omega (arith, less)) (filled.fits v d there.1))
      (colour_cases before x c v d at);
  past = λ v y d at among. ⊎_elim
      (λ here. subst (λ (z : ℕ). z < y) (sym here.0) (head_below x list ascends y among))
      (λ there. filled.past v y d there.1 (contains_later x list y among))
      (colour_cases before x c v d at);
}

-- After the pass the colours of own vertices are some that fit everywhere.
pass_fills : (edges : List Edge) (own list : List ℕ) (before after : Colours) → AllPairs (λ v w. v < w) list
    → Passes edges own list before after → Filled edges list before
    → (full : Colours) × Filled edges [] full × ((v : ℕ) → Contains own v → after v ≡ full v)
pass_fills edges own [] before after ascends passes filled = (before, filled, passes)
pass_fills edges own (x ∷ list) before after ascends passes filled =
    pass_fills edges own list (with_colour before x passes.0) after (tail_ascends x list ascends) passes.2 (filled_step edges list before x passes.0 ascends passes.1 filled)

pub no_members : (list : List ℕ) → ((v : ℕ) → Contains list v → ⊥) → list ≡ []
no_members [] none = refl
no_members (x ∷ list) none = absurd (none x (contains_first x list))

-- A neighbour is a vertex.
pub neighbour_within : (n : ℕ) (edges : List Edge) → All (IsEdge n) edges → (v w : ℕ) → AreJoined edges v w
    → (1 ≤ v) × (v ≤ n) × (1 ≤ w) × (w ≤ n)
neighbour_within n edges within v w j =
    let is = All-contains (IsEdge n) edges j.edge within j.among in
    ⊎_elim
    (λ a. (omega (arith, is.first, a.0), omega (arith, is.ascends, is.last, a.0), omega (arith, is.first, is.ascends, a.1), omega (arith, is.last, a.1)))
    (λ b. (omega (arith, is.first, is.ascends, b.1), omega (arith, is.last, b.1), omega (arith, is.first, b.0), omega (arith, is.ascends, is.last, b.0)))
    j.ends

module _ (run : Run) (last : ℕ) (is : IsRun run last) (one : run.ranks ≡ 1) where
  alone : (v : ℕ) → 1 ≤ v → v ≤ run.graph.n → run.owner v ≡ 0
  alone v low high = let rank = is.owned v low high in omega (arith, rank, one)

  rank_0 : 0 < run.ranks
  rank_0 = omega (arith, one)

  -- With one rank there are no ghosts, so no vertex is coloured twice.
  none_again : (j : ℕ) → j < last → run.list 0 (suc j) ≡ []
  none_again j below = no_members (run.list 0 (suc j)) (λ v among.
      let clash = ((is.goes_on 0 j v rank_0 below).0 among).1 in
      let at = neighbour_within run.graph.n run.graph.edges is.graph.within clash.lesser v clash.ghost.joined in
      clash.ghost.away (alone clash.lesser at.0 at.1))

  as_first : (j : ℕ) → j ≤ last → (v : ℕ) → Contains (run.own 0) v → run.colours 0 j v ≡ run.colours 0 0 v
  as_first zero within v mine = refl
  as_first (suc j) within v mine =
      pass_none run.graph.edges (run.own 0) (run.list 0 (suc j)) (known run 0 (suc j)) (run.colours 0 (suc j)) (none_again j (omega arith)) (is.passes 0 (suc j) rank_0 within) v mine
      ∙ (known_own run 0 j v ((is.owns 0 v rank_0).0 mine).2 ∙ as_first j (omega arith) v mine)

  first_pass : (full : Colours) × Filled run.graph.edges [] full × ((v : ℕ) → Contains (run.own 0) v → run.colours 0 0 v ≡ full v)
  first_pass = pass_fills run.graph.edges (run.own 0) (run.list 0 0) (known run 0 0) (run.colours 0 0) (is.ascends 0 0 rank_0 (omega arith)) (is.passes 0 0 rank_0 (omega arith))
      (record { fits = λ v c at. absurd (none_some c at); past = λ v x c at among. absurd (none_some c at) })

  module _ (colour : ℕ → ℕ) (answer : IsAnswer run last colour) where
    full_at : (v : ℕ) → 1 ≤ v → v ≤ run.graph.n → first_pass.0 v ≡ Some (colour v)
    full_at v low high =
        let mine : Contains (run.own 0) v = subst (λ (t : ℕ). Contains (run.own t) v) (alone v low high) (at_home run last v is low high) in
        let at = subst (λ (t : ℕ). run.colours t last v ≡ Some (colour v)) (alone v low high) (answer v low high) in
        sym (first_pass.2 v mine) ∙ (sym (as_first last (omega arith) v mine) ∙ at)

    fit_at : (v : ℕ) → 1 ≤ v → v ≤ run.graph.n → FitsAt run.graph.edges first_pass.0 v (colour v)
    fit_at v low high = first_pass.1.fits v (colour v) (full_at v low high)

    fit_free : (u v : ℕ) → AreJoined run.graph.edges v u → u < v → colour u ≢ colour v
    fit_free u v joined less same =
        let at = neighbour_within run.graph.n run.graph.edges is.graph.within v u joined in
        (fit_at v at.0 at.1).free u joined less (full_at u at.2 at.3 ∙ ap (λ (k : ℕ). Some k) same)

    fit_least : (v d : ℕ) → 1 ≤ v → v ≤ run.graph.n → d < colour v → (u : ℕ) × (u < v) × AreJoined run.graph.edges v u × (colour u ≡ d)
    fit_least v d low high less =
        let t = (fit_at v low high).least d less in
        let at = neighbour_within run.graph.n run.graph.edges is.graph.within v t.0 t.2 in
        (t.0, t.1, t.2, some_same (colour t.0) d (sym (full_at t.0 at.2 at.3) ∙ t.3))

pub one_rank_is_first_fit : OneRankIsFirstFit
one_rank_is_first_fit run last colour is one answer = record {
  free = fit_free run last is one colour answer;
  least = fit_least run last is one colour answer;
}
