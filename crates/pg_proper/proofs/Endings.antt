-- Each vertex is coloured for the last time once the lesser ones are: so each run ends.
use Rattle.std.proofs.Common.{Bool, cond, ◌≡◌, ℕ, zero, suc, ◌<◌, ◌≤◌, List, [], ◌∷◌, Some, sym, ◌∙◌, ap, subst, inl, inr, ⊎_elim, ◌⊎◌, arith, Contains}
use Rattle.std.proofs.lemmas.Bool.{cases_eq, ne_eqb}
use Rattle.pg_base.specs.declared.edges.Edge.{Edge}
use Rattle.pg_base.proofs.Members.{contains_first, contains_later, contains_cases}
use Rattle.pg_base.specs.Colouring.{AreJoined}
use Rattle.pg_proper.specs.Passes.{Passes, Colours, with_colour, HasColour}
use Rattle.pg_proper.specs.Runs.{Run, IsRun, IsGhost, known}
use Rattle.pg_proper.specs.RunLaws.{EndComes}
use Rattle.pg_proper.proofs.PassLemmas.{turned, at_other, colour_cases}
use Rattle.pg_proper.proofs.Rounds.{known_own, own_coloured, at_home}
use Rattle.pg_proper.proofs.FirstFit.{no_members, neighbour_within}

listed_or_not : (v : ℕ) (list : List ℕ) → Contains list v ⊎ (Contains list v → ⊥)
listed_or_not v [] = inr (λ among. omega (arith, among.1))
listed_or_not v (x ∷ list) = step (cases_eq x v) (listed_or_not v list)
  where
    step : (x ≡ v) ⊎ (x ≡ v → ⊥) → Contains list v ⊎ (Contains list v → ⊥) → Contains (x ∷ list) v ⊎ (Contains (x ∷ list) v → ⊥)
    step (inl same) rest = inl (subst (Contains (x ∷ list)) same (contains_first x list))
    step (inr apart) (inl later) = inl (contains_later x list v later)
    step (inr apart) (inr never) = inr (λ among. ⊎_elim apart never (contains_cases x list v among))

-- A pass leaves the colour of an own vertex that isn't listed.
pub pass_leaves : (edges : List Edge) (own list : List ℕ) (before after : Colours) → Passes edges own list before after
    → (v : ℕ) → Contains own v → (Contains list v → ⊥) → after v ≡ before v
pass_leaves edges own [] before after passes v mine never = passes v mine
pass_leaves edges own (x ∷ list) before after passes v mine never =
    pass_leaves edges own list (with_colour before x passes.0) after passes.2 v mine (λ later. never (contains_later x list v later))
    ∙ at_other before x passes.0 v (λ same. never (subst (Contains (x ∷ list)) (sym same) (contains_first x list)))

-- A listed vertex ends with another colour than a neighbour that isn't listed.
pub pass_avoids : (edges : List Edge) (own list : List ℕ) (before after : Colours) → Passes edges own list before after
    → (v u c : ℕ) → Contains own v → AreJoined edges v u → before u ≡ Some c → (Contains list u → ⊥)
    → Contains list v ⊎ (before v ≡ Some c → ⊥) → after v ≡ Some c → ⊥
pass_avoids edges own [] before after passes v u c mine joined at_u never known at_v =
    ⊎_elim (λ listed. omega (arith, listed.1)) (λ other. other (sym (passes v mine) ∙ at_v)) known
pass_avoids edges own (x ∷ list) before after passes v u c mine joined at_u never known at_v =
    let k = passes.0 in
    pass_avoids edges own list (with_colour before x k) after passes.2 v u c mine joined
    (at_other before x k u (λ same. never (subst (Contains (x ∷ list)) (sym same) (contains_first x list))) ∙ at_u)
    (λ later. never (contains_later x list u later))
    (avoided (cases_eq v x))
    at_v
  where
    avoided : (v ≡ x) ⊎ (v ≡ x → ⊥) → Contains list v ⊎ (with_colour before x passes.0 v ≡ Some c → ⊥)
    avoided (inl same) = inr (λ at. ⊎_elim
        (λ here. passes.1.free (record { neighbour = u; joined = subst (λ (y : ℕ). AreJoined edges y u) same joined; has = at_u ∙ ap (λ (k : ℕ). Some k) (sym here.1) }))
        (λ there. there.0 same)
        (colour_cases before x passes.0 v c at))
    avoided (inr apart) = ⊎_elim
        (λ listed. ⊎_elim (λ same. absurd (apart (sym same))) (λ later. inl later) (contains_cases x list v listed))
        (λ other. inr (λ at. other (sym (at_other before x passes.0 v apart) ∙ at)))
        known

module _ (run : Run) (last : ℕ) (is : IsRun run last) where
  -- v isn't coloured again from pass v on.
  Settled : ℕ → Type 0
  Settled v = (r j : ℕ) → r < run.ranks → j ≤ last → v ≤ j → 1 ≤ j → Contains (run.list r j) v → ⊥

  home_is : (r v : ℕ) → r < run.ranks → Contains (run.own r) v → run.owner v ≡ r
  home_is r v rank mine = ((is.owns r v rank).0 mine).2

  listed_own : (r j v : ℕ) → r < run.ranks → suc j ≤ last → Contains (run.list r (suc j)) v → Contains (run.own r) v
  listed_own r j v rank within among = ((is.goes_on r j v rank within).0 among).0

  -- A settled vertex keeps its colour.
  kept : (u s j : ℕ) → s < run.ranks → suc j ≤ last → Contains (run.own s) u → (Contains (run.list s (suc j)) u → ⊥)
      → run.colours s (suc j) u ≡ run.colours s j u
  kept u s j rank within mine never =
      pass_leaves run.graph.edges (run.own s) (run.list s (suc j)) (known run s (suc j)) (run.colours s (suc j)) (is.passes s (suc j) rank within) u mine never
      ∙ known_own run s j u (home_is s u rank mine)

  known_away : (r j u : ℕ) → (run.owner u ≡ r → ⊥) → known run r (suc j) u ≡ run.seen r j u
  known_away r j u away = ap (λ (t : Bool). cond t (run.colours r j u) (run.seen r j u)) (ne_eqb (run.owner u) r away)

  -- A clash after pass k + 1 with a vertex that kept its colour in that pass would have been found after pass k, and removed.
  no_clash : (v r k u : ℕ) → r < run.ranks → suc (suc k) ≤ last → u < v → (ghost : IsGhost run r u v)
      → run.seen r (suc k) u ≡ run.colours r (suc k) v
      → run.colours (run.owner u) (suc k) u ≡ run.colours (run.owner u) k u → HasColour (run.colours (run.owner u) k) u → ⊥
  no_clash v r k u rank within below ghost same still has =
      let now : run.colours (run.owner u) k u ≡ run.colours r (suc k) v = sym still ∙ (sym (is.fresh r (suc k) u v rank (omega arith) ghost) ∙ same) in
      let before = is.fresh r k u v rank (omega arith) ghost in
      elim (listed_or_not v (run.list r (suc k))) [
        | inl listed ↦
            pass_avoids run.graph.edges (run.own r) (run.list r (suc k)) (known run r (suc k)) (run.colours r (suc k)) (is.passes r (suc k) rank (omega arith)) v u has.0 ghost.own
            (turned run.graph.edges u v ghost.joined) (known_away r k u ghost.away ∙ (before ∙ has.1))
            (λ among. ghost.away (home_is r u rank (listed_own r k u rank (omega arith) among)))
            (inl listed) (sym now ∙ has.1)
        | inr never ↦
            never ((is.goes_on r k v rank (omega arith)).1 (
              ghost.own,
              record {
                lesser = u;
                below = below;
                ghost = ghost;
                same = before ∙ (now ∙ kept v r k rank (omega arith) ghost.own never);
              },
            ))
      ]

  settled : (v : ℕ) → ((u : ℕ) → u < v → Settled u) → Settled v
  unfolding Settled
  settled v lesser r zero rank within low late among = omega (arith, late)
  settled v lesser r (suc zero) rank within low late among =
      let clash = ((is.goes_on r 0 v rank (omega arith)).0 among).1 in
      let at = neighbour_within run.graph.n run.graph.edges is.graph.within clash.lesser v clash.ghost.joined in
      omega (arith, clash.below, at.0, low)
  settled v lesser r (suc (suc k)) rank within low late among =
      let clash = ((is.goes_on r (suc k) v rank (omega arith)).0 among).1 in
      let u = clash.lesser in
      let at = neighbour_within run.graph.n run.graph.edges is.graph.within u v clash.ghost.joined in
      let s = run.owner u in
      let home : s < run.ranks = is.owned u at.0 at.1 in
      let there : Contains (run.own s) u = at_home run last u is at.0 at.1 in
      let still = kept u s k home (omega arith) there (lesser u clash.below s (suc k) home (omega arith) (omega (arith, clash.below, low)) (omega arith)) in
      no_clash v r k u rank within clash.below clash.ghost clash.same still (own_coloured run last s k is home (omega arith) u there)

  all_settled : (b v : ℕ) → v < b → Settled v
  all_settled zero v below = absurd (omega (arith, below))
  all_settled (suc b) v below = settled v (λ u less. all_settled b u (omega arith))

  none_listed : (r j v : ℕ) → r < run.ranks → j ≤ last → run.graph.n ≤ j → Contains (run.list r j) v → ⊥
  unfolding Settled
  none_listed r zero v rank within far among =
      let at = (is.owns r v rank).0 (subst (λ (l : List ℕ). Contains l v) (is.begins r rank) among) in omega (arith, at.0, at.1)
  none_listed r (suc j) v rank within far among =
      let at = (is.owns r v rank).0 (listed_own r j v rank within among) in
      all_settled (suc v) v (omega arith) r (suc j) rank within (omega (arith, at.1)) (omega arith) among

pub end_comes : EndComes
end_comes run last is far r rank =
    no_members (run.list r last) (λ v among. none_listed run last is r last v rank (omega arith) far among)
