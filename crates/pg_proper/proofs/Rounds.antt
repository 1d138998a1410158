-- From each rank's passes and what it sees of the others to a proper colouring.
use Rattle.std.proofs.Common.{◌≡◌, ◌≢◌, ℕ, zero, suc, ◌<◌, ◌≤◌, Bool, cond, List, [], get_or, Option, Some, None, is_some, sym, ◌∙◌, ap, subst, refl, inl, inr, arith, Contains}
use Rattle.std.proofs.lemmas.Bool.{cases_eq, eq-eqb, false≢true}
use Rattle.std.proofs.lemmas.List.Elements.{All-contains, Contains-get_or}
use Rattle.pg_base.specs.declared.edges.Edge.{Edge}
use Rattle.pg_base.specs.Graph.{IsEdge}
use Rattle.pg_base.specs.Colouring.{AreJoined}
use Rattle.pg_proper.specs.Passes.{Passes, Colours, AreBounded, HasColour}
use Rattle.pg_proper.specs.Runs.{Run, IsRun, IsClash, IsGhost, known, HasEnded, IsAnswer}
use Rattle.pg_proper.specs.RunLaws.{OwnStayApart, VerticesAreColoured, EndIsProper}
use Rattle.pg_proper.proofs.PassLemmas.{pass_keeps_apart, pass_colours}
use Rattle.pg_proper.proofs.Bounds.{pass_keeps_bounded}

pub none_some : (c : ℕ) → None ≡ Some c → ⊥
none_some c e = false≢true (ap (λ (o : Option ℕ). is_some o) e)

-- What a rank knows of its own vertices are their colours.
pub known_own : (run : Run) (r j v : ℕ) → run.owner v ≡ r → known run r (suc j) v ≡ run.colours r j v
known_own run r j v own = ap (λ (t : Bool). cond t (run.colours r j v) (run.seen r j v)) (eq-eqb (run.owner v) r own)

-- A pass over no vertices changes nothing.
pub pass_none : (edges : List Edge) (own list : List ℕ) (before after : Colours) → list ≡ []
    → Passes edges own list before after → (v : ℕ) → Contains own v → after v ≡ before v
pass_none edges own list before after none passes = subst (λ (l : List ℕ). Passes edges own l before after) none passes

pub own_stay_apart : OwnStayApart
own_stay_apart run last r zero is rank within =
    pass_keeps_apart run.graph.n run.graph.edges (run.own r) (run.list r zero) (known run r zero) (run.colours r zero) is.graph.within (is.passes r zero rank within)
    (λ v w c mine yours j at_v at_w. none_some c at_v)
own_stay_apart run last r (suc j) is rank within =
    let earlier = own_stay_apart run last r j is rank (omega arith) in
    let own : (v : ℕ) → Contains (run.own r) v → known run r (suc j) v ≡ run.colours r j v = λ v mine. known_own run r j v ((is.owns r v rank).0 mine).2 in
    pass_keeps_apart run.graph.n run.graph.edges (run.own r) (run.list r (suc j)) (known run r (suc j)) (run.colours r (suc j)) is.graph.within (is.passes r (suc j) rank within)
    (λ v w c mine yours joined at_v at_w. earlier v w c mine yours joined (sym (own v mine) ∙ at_v) (sym (own w yours) ∙ at_w))

pub own_bounded : (run : Run) (last r j : ℕ) → IsRun run last → r < run.ranks → j ≤ last
    → AreBounded run.graph.edges (run.own r) (run.colours r j)
own_bounded run last r zero is rank within =
    pass_keeps_bounded run.graph.edges (run.own r) (run.list r zero) (known run r zero) (run.colours r zero) (is.passes r zero rank within)
    (λ v c mine at. absurd (none_some c at))
own_bounded run last r (suc j) is rank within =
    let earlier = own_bounded run last r j is rank (omega arith) in
    pass_keeps_bounded run.graph.edges (run.own r) (run.list r (suc j)) (known run r (suc j)) (run.colours r (suc j)) (is.passes r (suc j) rank within)
    (λ v c mine at. earlier v c mine (sym (known_own run r j v ((is.owns r v rank).0 mine).2) ∙ at))

pub own_coloured : (run : Run) (last r j : ℕ) → IsRun run last → r < run.ranks → j ≤ last → (v : ℕ) → Contains (run.own r) v
    → HasColour (run.colours r j) v
own_coloured run last r zero is rank within v mine =
    pass_colours run.graph.edges (run.own r) (run.list r zero) (known run r zero) (run.colours r zero) (is.passes r zero rank within) v mine
    (inr (subst (λ (l : List ℕ). Contains l v) (sym (is.begins r rank)) mine))
own_coloured run last r (suc j) is rank within v mine =
    let earlier = own_coloured run last r j is rank (omega arith) v mine in
    pass_colours run.graph.edges (run.own r) (run.list r (suc j)) (known run r (suc j)) (run.colours r (suc j)) (is.passes r (suc j) rank within) v mine
    (inl (earlier.0, known_own run r j v ((is.owns r v rank).0 mine).2 ∙ earlier.1))

-- Each vertex stands among its owner's.
pub at_home : (run : Run) (last v : ℕ) → IsRun run last → 1 ≤ v → v ≤ run.graph.n → Contains (run.own (run.owner v)) v
at_home run last v is low high = (is.owns (run.owner v) v (is.owned v low high)).1 (low, high, refl)

pub vertices_are_coloured : VerticesAreColoured
vertices_are_coloured run last is v low high =
    own_coloured run last (run.owner v) last is (is.owned v low high) (omega arith) v (at_home run last v is low high)

in_none : (list : List ℕ) (v : ℕ) → list ≡ [] → Contains list v → ⊥
in_none list v none among = let empty = subst (λ (l : List ℕ). Contains l v) none among in omega (arith, empty.1)

-- Where the lists are empty, ends on two ranks have two colours: the greater end's rank would have seen it else.
ghosts_apart : (run : Run) (last r s u v c : ℕ) → IsRun run last → HasEnded run last → r < run.ranks → s < run.ranks
    → Contains (run.own r) u → Contains (run.own s) v → r ≢ s → u < v → AreJoined run.graph.edges u v
    → run.colours r last u ≡ Some c → run.colours s last v ≡ Some c → ⊥
ghosts_apart run zero r s u v c is ended first second mine yours apart below joined at_u at_v =
    in_none (run.own s) v (sym (is.begins s second) ∙ ended s second) yours
ghosts_apart run (suc j) r s u v c is ended first second mine yours apart below joined at_u at_v =
    let at_r = ((is.owns r u first).0 mine).2 in
    let at_s = ((is.owns s v second).0 yours).2 in
    let ghost : IsGhost run s u v = record { own = yours; away = λ e. apart (sym at_r ∙ e); joined = joined } in
    let still_u = pass_none run.graph.edges (run.own r) (run.list r (suc j)) (known run r (suc j)) (run.colours r (suc j)) (ended r first) (is.passes r (suc j) first (omega arith)) u mine
    ∙ known_own run r j u at_r in
    let still_v = pass_none run.graph.edges (run.own s) (run.list s (suc j)) (known run s (suc j)) (run.colours s (suc j)) (ended s second) (is.passes s (suc j) second (omega arith)) v yours
    ∙ known_own run s j v at_s in
    let seen : run.seen s j u ≡ run.colours r j u = subst (λ (t : ℕ). run.seen s j u ≡ run.colours t j u) at_r (is.fresh s j u v second (omega arith) ghost) in
    let clash : IsClash run s j v = record { lesser = u; below = below; ghost = ghost; same = seen ∙ (sym still_u ∙ (at_u ∙ (sym at_v ∙ still_v))) } in
    in_none (run.list s (suc j)) v (ended s second) ((is.goes_on s j v second (omega arith)).1 (yours, clash))

ends_apart : (run : Run) (last : ℕ) (colour : ℕ → ℕ) → IsRun run last → HasEnded run last → IsAnswer run last colour
    → (e : Edge) → Contains run.graph.edges e → colour e.u ≢ colour e.v
ends_apart run last colour is ended answer e among same =
    let edge = All-contains (IsEdge run.graph.n) run.graph.edges e is.graph.within among in
    let r = run.owner e.u in
    let s = run.owner e.v in
    let first = is.owned e.u (omega (arith, edge.first)) (omega (arith, edge.ascends, edge.last)) in
    let second = is.owned e.v (omega (arith, edge.first, edge.ascends)) (omega (arith, edge.last)) in
    let mine = at_home run last e.u is (omega (arith, edge.first)) (omega (arith, edge.ascends, edge.last)) in
    let yours = at_home run last e.v is (omega (arith, edge.first, edge.ascends)) (omega (arith, edge.last)) in
    let joined : AreJoined run.graph.edges e.u e.v = record { edge = e; among = among; ends = inl (refl, refl) } in
    let at_u : run.colours r last e.u ≡ Some (colour e.v) = answer e.u (omega (arith, edge.first)) (omega (arith, edge.ascends, edge.last)) ∙ ap (λ (k : ℕ). Some k) same in
    let at_v = answer e.v (omega (arith, edge.first, edge.ascends)) (omega (arith, edge.last)) in
    elim (cases_eq r s) [
      | inl one ↦ own_stay_apart run last s last is second (omega arith) e.u e.v (colour e.v) (subst (λ (t : ℕ). Contains (run.own t) e.u) one mine) yours joined
          (subst (λ (t : ℕ). run.colours t last e.u ≡ Some (colour e.v)) one at_u) at_v
      | inr two ↦ ghosts_apart run last r s e.u e.v (colour e.v) is ended first second mine yours two (omega (arith, edge.ascends)) joined at_u at_v
    ]

pub end_is_proper : EndIsProper
end_is_proper run last colour is ended answer = record {
  apart = λ k d below. ends_apart run last colour is ended answer (get_or run.graph.edges k d) (Contains-get_or run.graph.edges k d below);
  bounded = λ v low high. own_bounded run last (run.owner v) last is (is.owned v low high) (omega arith) v (colour v) (at_home run last v is low high) (answer v low high);
}
