-- Of the arcs of edges in order no two have the same ends, and arcs with such edges are these arcs in some order.
use Rattle.std.proofs.Common.{◌≡◌, ◌≢◌, ◌==◌, ℕ, ◌*◌, min, max, List, [], ◌∷◌, length, refl, sym, ◌∙◌, ap, subst, inl, inr, ⊎_elim, arith, All, AllPairs, Contains, IsPermutation}
use Rattle.std.proofs.lemmas.Bool.{cases_lt}
use Rattle.std.proofs.lemmas.List.Elements.{All-contains, All-contains_itself, All-cons, All-head, All-tail, All-weaker}
use Rattle.std.proofs.lemmas.List.Sorted.{length_permutation}
use Rattle.pg_base.specs.declared.edges.Edge.{Edge}
use Rattle.pg_base.specs.Graph.{Arc, IsEdge, Precedes, arcs_of, arcs_from, forward, backward}
use Rattle.pg_base.proofs.Members.{AllPairs-cons}
use Rattle.pg_base.proofs.ArcLemmas.{IsDirectionOf, edge_of_arc, arcs_of_edge, arcs_from_leave}
use Rattle.pg_metis.specs.Pairing.{AreNamed, edge_along}
use Rattle.pg_metis.proofs.ListLemmas.{AllPairs-head, AllPairs-nil, AllPairs-tail}
use Rattle.pg_metis.proofs.SameMembers.{Once, Once-filter, Once-pairs, same_members}

-- Arcs from one vertex lead to different ones.
abbrev pub Differ : Arc → Arc → Type 0
Differ a b = a.from ≡ b.from → a.to ≢ b.to

pub not_same : (a b : Arc) → Differ a b → a ≡ b → ⊥
not_same a b differ same = differ (ap (λ (x : Arc). x.from) same) (ap (λ (x : Arc). x.to) same)

differ_later : (n : ℕ) (e d : Edge) (a : Arc) → IsEdge n e → IsEdge n d → Precedes e d → IsDirectionOf a d → Differ (forward e) a × Differ (backward e) a
differ_later n e d a here there order (inl is) =
    let own = here.ascends in
    let other = there.ascends in
    let first = order.first in
    let from : a.from ≡ d.u = ap (λ (x : Arc). x.from) is in
    let to : a.to ≡ d.v = ap (λ (x : Arc). x.to) is in (
      λ same to_same. let more = order.second (same ∙ from) in omega arith,
      λ same to_same. omega arith,
    )
differ_later n e d a here there order (inr is) =
    let own = here.ascends in
    let other = there.ascends in
    let first = order.first in
    let from : a.from ≡ d.v = ap (λ (x : Arc). x.from) is in
    let to : a.to ≡ d.u = ap (λ (x : Arc). x.to) is in (
      λ same to_same. omega arith,
      λ same to_same. let more = order.second (to_same ∙ to) in omega arith,
    )

pub arcs_differ : (n : ℕ) (edges : List Edge) → All (IsEdge n) edges → AllPairs Precedes edges → AllPairs Differ (arcs_of edges)
arcs_differ n [] within order = AllPairs-nil Differ
arcs_differ n (e ∷ edges) within order =
    let here = All-head (IsEdge n) e edges within in
    let rest = All-tail (IsEdge n) e edges within in
    let later = arcs_differ n edges rest (AllPairs-tail Precedes e edges order) in
    let both : (a : Arc) → Contains (arcs_of edges) a → Differ (forward e) a × Differ (backward e) a = λ a c.
    let found = edge_of_arc edges a c in
    differ_later n e found.0 a here (All-contains (IsEdge n) edges found.0 rest found.1) (All-contains (Precedes e) edges found.0 (AllPairs-head Precedes e edges order) found.1) found.2 in
    let own = here.ascends in
    AllPairs-cons Differ (forward e) (backward e ∷ arcs_of edges)
    (All-cons (Differ (forward e)) (backward e) (arcs_of edges) (λ same to_same. omega arith) (All-weaker (Contains (arcs_of edges)) (Differ (forward e)) (λ a c. (both a c).0) (arcs_of edges) (All-contains_itself (arcs_of edges))))
    (AllPairs-cons Differ (backward e) (arcs_of edges) (All-weaker (Contains (arcs_of edges)) (Differ (backward e)) (λ a c. (both a c).1) (arcs_of edges) (All-contains_itself (arcs_of edges))) later)

pub arcs_once : (n : ℕ) (edges : List Edge) → All (IsEdge n) edges → AllPairs Precedes edges → Once (arcs_of edges)
arcs_once n edges within order = Once-pairs Differ not_same (arcs_of edges) (arcs_differ n edges within order)

pub named_once : (n : ℕ) (arcs : List Arc) → AreNamed n arcs → Once arcs
named_once n arcs named = Once-pairs Differ not_same arcs named.once

pub length_arcs : (edges : List Edge) → length (arcs_of edges) ≡ 2 * length edges
length_arcs [] = refl
length_arcs (e ∷ edges) = let rest = length_arcs edges in omega arith

-- An arc between different vertices is a direction of the edge along it.
pub direction_along : (a : Arc) → a.to ≢ a.from → IsDirectionOf a (edge_along a)
direction_along a other = elim (cases_lt a.from a.to) [
  | inl below ↦ (let low : min a.from a.to ≡ a.from = omega arith in let high : max a.from a.to ≡ a.to = omega arith in inl (rw (low, high) refl))
  | inr above ↦ (let low : min a.from a.to ≡ a.to = omega arith in let high : max a.from a.to ≡ a.from = omega arith in inr (rw (low, high) refl))
]

-- The arcs of both lists are the same.
pub record SameArcs (xs ys : List Arc) : Type 0 where
  pub there : (a : Arc) → Contains xs a → Contains ys a
  pub back : (a : Arc) → Contains ys a → Contains xs a

pub edges_have_arcs : (n : ℕ) (arcs : List Arc) (edges : List Edge) → AreNamed n arcs → All (λ a. Contains edges (edge_along a)) arcs → All (λ e. Contains arcs (forward e) × Contains arcs (backward e)) edges → SameArcs arcs (arcs_of edges)
edges_have_arcs n arcs edges named each directions = record {
  there = λ a c.
      (let along = All-contains (λ a. Contains edges (edge_along a)) arcs a each c in
      let is = All-contains (λ a. a.to ≢ a.from) arcs a (λ k d within. (named.within k d within).other) c in
      let both = arcs_of_edge edges (edge_along a) along in
      ⊎_elim (λ same. subst (Contains (arcs_of edges)) (sym same) both.0) (λ same. subst (Contains (arcs_of edges)) (sym same) both.1) (direction_along a is));
  back = λ a c.
      (let found = edge_of_arc edges a c in
      let both = All-contains (λ e. Contains arcs (forward e) × Contains arcs (backward e)) edges found.0 directions found.1 in
      ⊎_elim (λ same. subst (Contains arcs) (sym same) both.0) (λ same. subst (Contains arcs) (sym same) both.1) found.2);
}

-- The same arcs, each once, leave a vertex in both lists.
pub same_from : (xs ys : List Arc) (v : ℕ) → Once xs → Once ys → SameArcs xs ys → IsPermutation (arcs_from xs v) (arcs_from ys v)
same_from xs ys v first second same =
    same_members (arcs_from xs v) (arcs_from ys v) (Once-filter (λ a. a.from == v) xs first) (Once-filter (λ a. a.from == v) ys second)
    (λ a c. let out = (arcs_from_leave xs v a).0 c in (arcs_from_leave ys v a).1 (same.there a out.0, out.1))
    (λ a c. let out = (arcs_from_leave ys v a).0 c in (arcs_from_leave xs v a).1 (same.back a out.0, out.1))

pub same_length : (n : ℕ) (arcs : List Arc) (edges : List Edge) → AreNamed n arcs → All (IsEdge n) edges → AllPairs Precedes edges → SameArcs arcs (arcs_of edges) → length arcs ≡ 2 * length edges
same_length n arcs edges named within order same =
    let moved = same_members arcs (arcs_of edges) (named_once n arcs named) (arcs_once n edges within order) same.there same.back in
    sym (length_permutation arcs (arcs_of edges) moved) ∙ length_arcs edges
