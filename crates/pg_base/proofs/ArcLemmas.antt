-- What the arcs of a list of edges are, and where the walks of a graph stay.
use Rattle.std.proofs.Common.{◌≡◌, ◌≤◌, ◌⊎◌, ◌==◌, List, [], ◌∷◌, get_or, sym, subst, inl, inr, ⊎_elim, arith, Contains}
use Rattle.std.proofs.lemmas.Bool.{eqb-true, eq-eqb}
use Rattle.std.proofs.lemmas.List.Elements.{All-contains, Contains-get_or}
use Rattle.pg_base.specs.declared.edges.Edge.{Edge}
use Rattle.pg_base.specs.Graph.{Graph, IsGraph, IsEdge, Arc, forward, backward, arcs_of}
use Rattle.pg_base.specs.WalkLaws.{ArcsAreEdges, ArcsFromLeave, WalksStayWithin}
use Rattle.pg_base.proofs.Members.{contains_first, contains_later, contains_cases, Contains-filter, Contains-kept}
use Rattle.pg_base.proofs.WalkLemmas.{walk_stays}

-- a is e in one of its two directions.
abbrev pub IsDirectionOf : Arc → Edge → Type 0
IsDirectionOf a e = (a ≡ forward e) ⊎ (a ≡ backward e)

pub edge_of_arc : (edges : List Edge) (a : Arc) → Contains (arcs_of edges) a → (e : Edge) × Contains edges e × IsDirectionOf a e
edge_of_arc [] a among = absurd (omega arith)
edge_of_arc (e ∷ edges) a among =
    let rest = arcs_of edges in
    ⊎_elim
    (λ same. (e, contains_first e edges, inl (sym same)))
    (λ later. ⊎_elim
    (λ same. (e, contains_first e edges, inr (sym same)))
    (λ last. let found = edge_of_arc edges a last in (found.0, contains_later e edges found.0 found.1, found.2))
    (contains_cases (backward e) rest a later))
    (contains_cases (forward e) (backward e ∷ rest) a among)

-- Both directions of an edge of the list are among its arcs.
pub arcs_of_edge : (edges : List Edge) (e : Edge) → Contains edges e → Contains (arcs_of edges) (forward e) × Contains (arcs_of edges) (backward e)
arcs_of_edge [] e among = absurd (omega arith)
arcs_of_edge (d ∷ edges) e among =
    let rest = arcs_of edges in
    ⊎_elim
    (λ same. subst (λ (x : Edge). Contains (arcs_of (d ∷ edges)) (forward x) × Contains (arcs_of (d ∷ edges)) (backward x)) same
    (contains_first (forward d) (backward d ∷ rest), contains_later (forward d) (backward d ∷ rest) (backward d) (contains_first (backward d) rest)))
    (λ later. let both = arcs_of_edge edges e later in (
      contains_later (forward d) (backward d ∷ rest) (forward e) (contains_later (backward d) rest (forward e) both.0),
      contains_later (forward d) (backward d ∷ rest) (backward e) (contains_later (backward d) rest (backward e) both.1),
    ))
    (contains_cases d edges e among)

arc_of_edge : (edges : List Edge) (a : Arc) → (e : Edge) × Contains edges e × IsDirectionOf a e → Contains (arcs_of edges) a
arc_of_edge edges a found =
    let both = arcs_of_edge edges found.0 found.1 in
    ⊎_elim
    (λ is. subst (Contains (arcs_of edges)) (sym is) both.0)
    (λ is. subst (Contains (arcs_of edges)) (sym is) both.1)
    found.2

pub arcs_are_edges : ArcsAreEdges
arcs_are_edges edges a = (edge_of_arc edges a, arc_of_edge edges a)

pub arcs_from_leave : ArcsFromLeave
arcs_from_leave arcs v a = (
  λ among. let kept = Contains-filter (λ (x : Arc). x.from == v) arcs a among in (kept.0, eqb-true a.from v kept.1),
  λ leaves. Contains-kept (λ (x : Arc). x.from == v) arcs a leaves.0 (eq-eqb a.from v leaves.1),
)

-- Both ends of a graph's arcs are vertices.
pub arc_is_within : (g : Graph) → IsGraph g → (a : Arc) → Contains (arcs_of g.edges) a → (1 ≤ a.from) × (a.from ≤ g.n) × (1 ≤ a.to) × (a.to ≤ g.n)
arc_is_within g is a among =
    let found = edge_of_arc g.edges a among in
    let e = found.0 in
    let edge = All-contains (IsEdge g.n) g.edges e is.within found.1 in
    let low = edge.first in
    let mid = edge.ascends in
    let high = edge.last in
    ⊎_elim
    (λ way. subst (λ (x : Arc). (1 ≤ x.from) × (x.from ≤ g.n) × (1 ≤ x.to) × (x.to ≤ g.n)) (sym way) (omega arith, omega arith, omega arith, omega arith))
    (λ way. subst (λ (x : Arc). (1 ≤ x.from) × (x.from ≤ g.n) × (1 ≤ x.to) × (x.to ≤ g.n)) (sym way) (omega arith, omega arith, omega arith, omega arith))
    found.2

pub walks_stay_within : WalksStayWithin
walks_stay_within g is s v low high joins =
    walk_stays (λ x. (1 ≤ x) × (x ≤ g.n)) (arcs_of g.edges)
    (λ k d below inside.
    let ends = arc_is_within g is (get_or (arcs_of g.edges) k d) (Contains-get_or (arcs_of g.edges) k d below) in (ends.2, ends.3))
    s joins.0 v joins.1 (low, high)
