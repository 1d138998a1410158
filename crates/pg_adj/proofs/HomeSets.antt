-- The sets of a rank's vertices are put one after another.
use Rattle.std.proofs.Common.{◌≡◌, ◌≢◌, ℕ, ◌+◌, ◌-◌, ◌<◌, Bool, eqb, not, ◌&&◌, List, length, get_or, set, sym, ap, ◌∙◌, inl, inr, arith}
use Rattle.std.specs.List.{list_any}
use Rattle.std.proofs.lemmas.Bool.{cases_eq}
use Rattle.std.proofs.lemmas.List.{get_or-set_other}
use Rattle.std.proofs.lemmas.Grind.{get_or-set_at}
use Rattle.pg_base.specs.declared.edges.Edge.{Edge}
use Rattle.pg_base.specs.Keyed.{row_of}
use Rattle.pg_adj.specs.declared.arcs.Arc.{Arc}
use Rattle.pg_adj.specs.declared.rank_sets.RankSet.{RankSet}
use Rattle.pg_adj.specs.RankSets.{has}
use Rattle.pg_dist.specs.Sharing.{Sharing, IsSharing}
use Rattle.pg_adj.specs.Division.{AreRows, arcs_at}

module _ (s : Sharing) (laws : IsSharing s) (q : ℕ) (rank : q < s.ranks) (i : ℕ) (place : i < s.count q) (v : ℕ) (is : v ≡ s.global q i)
    (sets : List RankSet) (size : ℕ) (whole : size ≡ s.n) (each : length sets ≡ size) (x : RankSet) where
  -- a vertex of another rank or place stands elsewhere
  elsewhere : (k : ℕ) → (s.owner (k + 1) ≡ q → s.local (k + 1) ≢ i) → k ≢ v - 1
  elsewhere k other same =
      let at : k + 1 ≡ s.global q i = omega (arith, is, laws.global_first q i rank place) in
      other (ap s.owner at ∙ laws.owner_of_global q i rank place) (ap s.local at ∙ laws.local_of_global q i rank place)

  pub sets_put : (F : ℕ → ℕ → Bool) → ((r : ℕ) → has x r ≡ F i r)
      → ((r k : ℕ) (d : RankSet) → k < size → s.owner (k + 1) ≡ q → s.local (k + 1) < i → has (get_or sets k d) r ≡ F (s.local (k + 1)) r)
      → (r k : ℕ) (d : RankSet) → k < size → s.owner (k + 1) ≡ q → s.local (k + 1) < i + 1 → has (get_or (set sets (v - 1) x) k d) r ≡ F (s.local (k + 1)) r
  sets_put F new old = λ r k d l owned below. elim (cases_eq (s.local (k + 1)) i) [
    | inl same ↦
        let at : k + 1 ≡ s.global q i =
        sym (laws.global_of_local (k + 1) (omega arith) (omega arith)) ∙ (ap (λ (o : ℕ). s.global o (s.local (k + 1))) owned ∙ ap (λ (j : ℕ). s.global q j) same) in
        let here : k ≡ v - 1 = omega (arith, is) in
        ap (λ (y : RankSet). has y r) (get_or-set_at sets (v - 1) k x d here (omega arith)) ∙ (new r ∙ ap (λ (j : ℕ). F j r) (sym same))
    | inr other ↦ ap (λ (y : RankSet). has y r) (get_or-set_other sets (v - 1) k x d (elsewhere k (λ o. other))) ∙ old r k d l owned (omega arith)
  ]

  pub others_kept : (old : List RankSet) → ((k : ℕ) (d : RankSet) → k < size → s.owner (k + 1) ≢ q → get_or sets k d ≡ get_or old k d)
      → (k : ℕ) (d : RankSet) → k < size → s.owner (k + 1) ≢ q → get_or (set sets (v - 1) x) k d ≡ get_or old k d
  others_kept old same = λ k d l abroad. get_or-set_other sets (v - 1) k x d (elsewhere k (λ o. absurd (abroad o))) ∙ same k d l abroad

-- a row by its key, in lists that are lent
pub row_by_key : {X : Type 0} (bounds lent : List ℕ) (items lent' : List X) (i : ℕ) → lent ≡ bounds → lent' ≡ items → row_of lent lent' (i + 1 - 1) ≡ row_of bounds items i
row_by_key {X} bounds lent items lent' i el el' =
    let at : i + 1 - 1 ≡ i = omega arith in
    ap (λ (k : ℕ). row_of lent lent' k) at ∙ (ap (λ (bs : List ℕ). row_of bs lent' i) el ∙ ap (λ (xs : List X). row_of bounds xs i) el')

-- the vertices of one rank more have their sets
pub sets_more : (s : Sharing) → IsSharing s → (edges : List Edge) (q : ℕ) (bounds : List ℕ) (arcs : List Arc) → AreRows (λ i. arcs_at s edges (s.global q i)) (s.count q) bounds arcs
    → (old lent new : List RankSet) → length old ≡ s.n → lent ≡ old
    → ((r k : ℕ) (d : RankSet) → k < s.n → s.owner (k + 1) < q → has (get_or old k d) r ≡ list_any (λ a. eqb a.home.0 r && not (eqb a.home.0 (s.owner (k + 1)))) (arcs_at s edges (k + 1)))
    → ((r k : ℕ) (d : RankSet) → k < length lent → s.owner (k + 1) ≡ q → has (get_or new k d) r ≡ list_any (λ a. eqb a.home.0 r && not (eqb a.home.0 q)) (row_of bounds arcs (s.local (k + 1))))
    → ((k : ℕ) (d : RankSet) → k < length lent → s.owner (k + 1) ≢ q → get_or new k d ≡ get_or lent k d)
    → (r k : ℕ) (d : RankSet) → k < s.n → s.owner (k + 1) < q + 1 → has (get_or new k d) r ≡ list_any (λ a. eqb a.home.0 r && not (eqb a.home.0 (s.owner (k + 1)))) (arcs_at s edges (k + 1))
sets_more s laws edges q bounds arcs rows old lent new size el before own others = λ r k d l below.
    let inside : k < length lent = omega (arith, ap length el) in
    elim (cases_eq (s.owner (k + 1)) q) [
      | inl same ↦
          let local = laws.local_below (k + 1) (omega arith) (omega arith) in
          let place : s.local (k + 1) < s.count q = omega (arith, ap s.count same) in
          let at : s.global q (s.local (k + 1)) ≡ k + 1 = ap (λ (o : ℕ). s.global o (s.local (k + 1))) (sym same) ∙ laws.global_of_local (k + 1) (omega arith) (omega arith) in
          own r k d inside same
          ∙ (ap (λ (list : List Arc). list_any (λ a. eqb a.home.0 r && not (eqb a.home.0 q)) list) (rows.row (s.local (k + 1)) place ∙ ap (λ (v : ℕ). arcs_at s edges v) at)
          ∙ ap (λ (o : ℕ). list_any (λ a. eqb a.home.0 r && not (eqb a.home.0 o)) (arcs_at s edges (k + 1))) (sym same))
      | inr other ↦
          ap (λ (y : RankSet). has y r) (others k d inside other ∙ ap (λ (ss : List RankSet). get_or ss k d) el) ∙ before r k d l (omega arith)
    ]
