-- The arcs at a vertex are those of the undivided graph, and ascend.
use Rattle.std.proofs.Common.{◌≡◌, ◌≢◌, ℕ, ◌+◌, ◌<◌, List, [], ◌∷◌, length, get_or, map, All, sym, ap, subst, refl, ◌∙◌, inl, inr, arith, suc}
use Rattle.std.specs.List.{AllPairs}
use Rattle.std.proofs.lemmas.Bool.{cases_eq, eq-eqb, ne_eqb}
use Rattle.std.proofs.lemmas.List.{get_or-map, length-map}
use Rattle.std.proofs.lemmas.List.Elements.{All-nil, All-cons, All-head, All-tail}
use Rattle.std.proofs.lemmas.List.Kept.{AllPairs-cons}
use Rattle.pg_base.specs.declared.edges.Edge.{Edge}
use Rattle.pg_base.specs.Graph.{Graph, Arc as GraphArc, IsEdge, IsGraph, Precedes, forward, backward, arcs_of, arcs_from}
use Rattle.pg_adj.specs.declared.arcs.Arc.{Arc}
use Rattle.pg_base.specs.Keyed.{items_of}
use Rattle.pg_adj.specs.Incidence.{incidences}
use Rattle.pg_dist.specs.Sharing.{Sharing}
use Rattle.pg_adj.specs.Division.{arc_from, arc_at, arcs_at, no_edge, undivided}

forward_is : (s : Sharing) (v k : ℕ) (e : Edge) → e.u ≡ v → undivided v (arc_from s.owner s.local v e k) ≡ forward e
forward_is s v k e same = rw (eq-eqb e.u v same) (let f : ℕ → GraphArc = λ x. record { from = x; to = e.v; weight = e.w } in ap f (sym same))

backward_is : (s : Sharing) (v k : ℕ) (e : Edge) → e.u ≢ v → e.v ≡ v → undivided v (arc_from s.owner s.local v e k) ≡ backward e
backward_is s v k e other same = rw (ne_eqb e.u v other) (let f : ℕ → GraphArc = λ x. record { from = x; to = e.u; weight = e.w } in ap f (sym same))

-- the arcs of an edge among those from v
from_first : (e : Edge) (edges : List Edge) (v : ℕ) → e.u ≡ v → e.v ≢ v → arcs_from (arcs_of (e ∷ edges)) v ≡ forward e ∷ arcs_from (arcs_of edges) v
from_first e edges v same apart = rw (eq-eqb e.u v same, ne_eqb e.v v apart) refl

from_last : (e : Edge) (edges : List Edge) (v : ℕ) → e.u ≢ v → e.v ≡ v → arcs_from (arcs_of (e ∷ edges)) v ≡ backward e ∷ arcs_from (arcs_of edges) v
from_last e edges v other same = rw (ne_eqb e.u v other, eq-eqb e.v v same) refl

from_neither : (e : Edge) (edges : List Edge) (v : ℕ) → e.u ≢ v → e.v ≢ v → arcs_from (arcs_of (e ∷ edges)) v ≡ arcs_from (arcs_of edges) v
from_neither e edges v other neither = rw (ne_eqb e.u v other, ne_eqb e.v v neither) refl

directed_rest : (s : Sharing) (n v k : ℕ) (edges all : List Edge) → All (IsEdge n) edges → ((j : ℕ) → j < length edges → get_or all (k + j) no_edge ≡ get_or edges j no_edge)
    → map (undivided v) (map (arc_at s.owner s.local all v) (items_of (incidences k edges) v)) ≡ arcs_from (arcs_of edges) v
directed_rest s n v k [] all within reads = refl
directed_rest s n v k (e ∷ edges) all within reads =
    let edge : IsEdge n e = All-head (IsEdge n) e edges within in
    let rest : map (undivided v) (map (arc_at s.owner s.local all v) (items_of (incidences (k + 1) edges) v)) ≡ arcs_from (arcs_of edges) v =
    directed_rest s n v (k + 1) edges all (All-tail (IsEdge n) e edges within)
    (λ j l. let next : k + 1 + j ≡ k + suc j = omega arith in ap (λ (i : ℕ). get_or all i no_edge) next ∙ reads (suc j) (omega arith)) in
    let first : k ≡ k + 0 = omega arith in
    let here : get_or all k no_edge ≡ e = ap (λ (i : ℕ). get_or all i no_edge) first ∙ reads 0 (omega arith) in
    let arc = ap (λ (d : Edge). undivided v (arc_from s.owner s.local v d k)) here in
    elim (cases_eq e.u v) [
      | inl same ↦
          let apart : e.v ≢ v = λ h. absurd (omega (arith, edge.ascends)) in
          rw (eq-eqb e.u v same, ne_eqb e.v v apart)
          (ap (λ (a : GraphArc). a ∷ map (undivided v) (map (arc_at s.owner s.local all v) (items_of (incidences (k + 1) edges) v))) (arc ∙ forward_is s v k e same)
          ∙ ap (λ (xs : List GraphArc). forward e ∷ xs) rest)
      | inr other ↦ elim (cases_eq e.v v) [
        | inl same ↦ rw (ne_eqb e.u v other, eq-eqb e.v v same)
            (ap (λ (a : GraphArc). a ∷ map (undivided v) (map (arc_at s.owner s.local all v) (items_of (incidences (k + 1) edges) v))) (arc ∙ backward_is s v k e other same)
            ∙ ap (λ (xs : List GraphArc). backward e ∷ xs) rest)
        | inr neither ↦ rw (ne_eqb e.u v other, ne_eqb e.v v neither) rest
      ]
    ]

pub directed : (s : Sharing) (g : Graph) → IsGraph g → (v : ℕ) → map (undivided v) (arcs_at s g.edges v) ≡ arcs_from (arcs_of g.edges) v
directed s g graph v = directed_rest s g.n v 0 g.edges g.edges graph.within
    (λ j l. let same : 0 + j ≡ j = omega arith in ap (λ (i : ℕ). get_or g.edges i no_edge) same)

-- behind an edge from v, and behind one to v
after_first : (n v : ℕ) (e : Edge) (edges : List Edge) → e.u ≡ v → All (IsEdge n) edges → All (Precedes e) edges → All (λ b. e.v < b.to) (arcs_from (arcs_of edges) v)
after_first n v e [] same within later = All-nil (λ (b : GraphArc). e.v < b.to)
after_first n v e (d ∷ edges) same within later =
    let edge : IsEdge n d = All-head (IsEdge n) d edges within in
    let order : Precedes e d = All-head (Precedes e) d edges later in
    let rest = after_first n v e edges same (All-tail (IsEdge n) d edges within) (All-tail (Precedes e) d edges later) in
    let apart : d.v ≢ v = λ h. absurd (omega (arith, edge.ascends, order.first)) in
    elim (cases_eq d.u v) [
      | inl at ↦ subst (λ (xs : List GraphArc). All (λ b. e.v < b.to) xs) (sym (from_first d edges v at apart)) (All-cons (λ (b : GraphArc). e.v < b.to) (forward d) (arcs_from (arcs_of edges) v) (order.second (same ∙ sym at)) rest)
      | inr other ↦ subst (λ (xs : List GraphArc). All (λ b. e.v < b.to) xs) (sym (from_neither d edges v other apart)) rest
    ]

lesser_first : (v : ℕ) (e d : Edge) → Precedes e d → e.v ≡ v → d.v ≡ v → e.u < d.u
lesser_first v e d order same at = elim (cases_eq e.u d.u) [
  | inl equal ↦ absurd (omega (arith, order.second equal))
  | inr other ↦ omega (arith, order.first)
]

after_last : (n v : ℕ) (e : Edge) (edges : List Edge) → e.v ≡ v → IsEdge n e → All (IsEdge n) edges → All (Precedes e) edges → All (λ b. e.u < b.to) (arcs_from (arcs_of edges) v)
after_last n v e [] same own within later = All-nil (λ (b : GraphArc). e.u < b.to)
after_last n v e (d ∷ edges) same own within later =
    let edge : IsEdge n d = All-head (IsEdge n) d edges within in
    let order : Precedes e d = All-head (Precedes e) d edges later in
    let rest = after_last n v e edges same own (All-tail (IsEdge n) d edges within) (All-tail (Precedes e) d edges later) in
    elim (cases_eq d.u v) [
      | inl at ↦
          let apart : d.v ≢ v = λ h. absurd (omega (arith, edge.ascends)) in
          subst (λ (xs : List GraphArc). All (λ b. e.u < b.to) xs) (sym (from_first d edges v at apart)) (All-cons (λ (b : GraphArc). e.u < b.to) (forward d) (arcs_from (arcs_of edges) v) (omega (arith, own.ascends, edge.ascends)) rest)
      | inr other ↦ elim (cases_eq d.v v) [
        | inl at ↦ subst (λ (xs : List GraphArc). All (λ b. e.u < b.to) xs) (sym (from_last d edges v other at)) (All-cons (λ (b : GraphArc). e.u < b.to) (backward d) (arcs_from (arcs_of edges) v)
            (lesser_first v e d order same at) rest)
        | inr neither ↦ subst (λ (xs : List GraphArc). All (λ b. e.u < b.to) xs) (sym (from_neither d edges v other neither)) rest
      ]
    ]

ascending_from : (n v : ℕ) (edges : List Edge) → All (IsEdge n) edges → AllPairs Precedes edges → AllPairs (λ a b. a.to < b.to) (arcs_from (arcs_of edges) v)
ascending_from n v [] within order = λ i j d less l. absurd (omega arith)
ascending_from n v (e ∷ edges) within order =
    let own : IsEdge n e = All-head (IsEdge n) e edges within in
    let tail : All (IsEdge n) edges = All-tail (IsEdge n) e edges within in
    let later : All (Precedes e) edges = λ j d l. order 0 (suc j) d (omega arith) (omega arith) in
    let rest = ascending_from n v edges tail (λ i j d less l. order (suc i) (suc j) d (omega arith) (omega arith)) in
    elim (cases_eq e.u v) [
      | inl same ↦
          let apart : e.v ≢ v = λ h. absurd (omega (arith, own.ascends)) in
          subst (λ (xs : List GraphArc). AllPairs (λ a b. a.to < b.to) xs) (sym (from_first e edges v same apart)) (AllPairs-cons (λ (a b : GraphArc). a.to < b.to) (forward e) (arcs_from (arcs_of edges) v) (after_first n v e edges same tail later) rest)
      | inr other ↦ elim (cases_eq e.v v) [
        | inl same ↦ subst (λ (xs : List GraphArc). AllPairs (λ a b. a.to < b.to) xs) (sym (from_last e edges v other same)) (AllPairs-cons (λ (a b : GraphArc). a.to < b.to) (backward e) (arcs_from (arcs_of edges) v) (after_last n v e edges same own tail later) rest)
        | inr neither ↦ subst (λ (xs : List GraphArc). AllPairs (λ a b. a.to < b.to) xs) (sym (from_neither e edges v other neither)) rest
      ]
    ]

pub ascending : (s : Sharing) (g : Graph) → IsGraph g → (v : ℕ) → AllPairs (λ a b. a.to.0 < b.to.0) (arcs_at s g.edges v)
ascending s g graph v = λ i j d less l.
    let row : List Arc = arcs_at s g.edges v in
    let pairs = subst (λ (xs : List GraphArc). AllPairs (λ a b. a.to < b.to) xs) (sym (directed s g graph v)) (ascending_from g.n v g.edges graph.within graph.ascending) in
    let size = length-map row (undivided v) in
    let order = pairs i j (undivided v d) less (omega arith) in
    let first = ap (λ (a : GraphArc). a.to) (get_or-map (undivided v) row i d (undivided v d) (omega arith)) in
    let second = ap (λ (a : GraphArc). a.to) (get_or-map (undivided v) row j d (undivided v d) (omega arith)) in
    omega arith
