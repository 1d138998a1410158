-- The parts of a division, by rank, and the weights of a graph's arcs.
use Rattle.std.proofs.Common.{◌≡◌, ℕ, zero, suc, ◌^◌, ◌<◌, List, [], ◌∷◌, refl, sym, ap, ◌∙◌, subst, arith, Some, Contains, All}
use Rattle.std.specs.Prelude.{slice_get, slice_index_or}
use Rattle.std.proofs.lemmas.List.Elements.{All-contains}
use Rattle.pg_base.specs.Graph.{Graph, Arc, arcs_of, forward, backward}
use Rattle.pg_dist.specs.Sharing.{Sharing}
use Rattle.pg_adj.specs.Portions.{Portion}
use Rattle.pg_best.specs.Parts.{IsAt, IsDivided, Include, Part, local_arc}
use Rattle.pg_best.specs.Relaxation.{IsArc}
use Rattle.std.proofs.lemmas.Option.{slice_get_within}
use Rattle.pg_base.specs.declared.edges.Edge.{Edge}
use Rattle.pg_top.specs.Relaxed.{AreInOrder}
use Rattle.pg_adj.specs.Division.{Divided}

pub got : {X : Type 0} (xs : List X) (k : ℕ) (x d : X) → slice_get xs k ≡ Some x → slice_index_or xs k d ≡ x
got [] k x d e = absurd (cc e)
got (y ∷ xs) zero x d e = let same : y ≡ x = cc in same
got (y ∷ xs) (suc k) x d e = got xs k x d e

-- the parts may be given by another function, if it says the same of the ranks
pub divided_alike : (n ranks : ℕ) (arcs : List Arc) (owner place : ℕ → ℕ) (parts parts' : ℕ → Part) → All (IsArc n) arcs → ((r : ℕ) → r < ranks → parts r ≡ parts' r)
    → IsDivided n ranks arcs owner place parts → IsDivided n ranks arcs owner place parts'
divided_alike n ranks arcs owner place parts parts' are same d = record {
  rank = λ r h. ap (λ (p : Part). p.rank) (sym (same r h)) ∙ d.rank r h;
  group = λ r h. ap (λ (p : Part). p.ranks) (sym (same r h)) ∙ d.group r h;
  owned = d.owned;
  placed = λ v at. subst (λ (p : Part). IsAt p (place v) v) (same (owner v) (d.owned v at)) (d.placed v at);
  given = λ a c. subst (λ (p : Part). Contains p.arcs (local_arc owner place a)) (same (owner a.from) (d.owned a.from (All-contains (IsArc n) arcs a are c).from)) (d.given a c);
  included = λ r h. subst (λ (p : Part). Include arcs p) (same r h) (d.included r h);
}

-- the parts of a division are in order
pub divided_in_order : (s : Sharing) (g : Graph) (parts : List Portion) → Divided s g parts → AreInOrder parts
divided_in_order s g parts d k p at =
    let h : k < s.ranks = omega (arith, slice_get_within parts k p at, d.count) in
    let part = d.part k p h in
    let same : slice_index_or parts k p ≡ p = got parts k p p at in
    (ap (λ (q : Portion). q.rank) (sym same) ∙ part.rank, ap (λ (q : Portion). q.ranks) (sym same) ∙ (part.ranks ∙ sym d.count))

-- two arcs of this weight before others
fits_behind : (w : ℕ) (x y : Arc) (arcs : List Arc) → x.weight ≡ w → y.weight ≡ w → w < 2 ^ 32 → All (λ (b : Arc). b.weight < 2 ^ 32) arcs → All (λ (b : Arc). b.weight < 2 ^ 32) (x ∷ y ∷ arcs)
fits_behind w x y arcs a b fit rest zero d h = omega (arith, a, fit)
fits_behind w x y arcs a b fit rest (suc zero) d h = omega (arith, b, fit)
fits_behind w x y arcs a b fit rest (suc (suc k)) d h = rest k d (omega arith)

-- each arc of a graph weighs what an edge weighs
pub arcs_fit : (edges : List Edge) → All (λ (e : Edge). e.w < 2 ^ 32) edges → All (λ (b : Arc). b.weight < 2 ^ 32) (arcs_of edges)
arcs_fit [] fit = λ k d h. absurd (omega arith)
arcs_fit (e ∷ edges) fit = fits_behind e.w (forward e) (backward e) (arcs_of edges) refl refl (fit 0 e (omega arith)) (arcs_fit edges (λ k d h. fit (suc k) d (omega arith)))
