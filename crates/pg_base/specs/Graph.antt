-- Graphs as edge lists, and the arcs that walks follow.
-- Source: Cormen, Leiserson, Rivest and Stein, Introduction to Algorithms, appendix B.4.
use Rattle.std.specs.Prelude.{filter, ◌==◌, ◌≡◌, ℕ, ◌<◌, ◌≤◌, List, [], ◌∷◌, length, All, AllPairs}
use Rattle.pg_base.specs.declared.TheConstants.{MAX_EDGES, MAX_VERTICES}
use Rattle.pg_base.specs.declared.edges.Edge.{Edge}

-- Vertices 1 to n, and undirected edges with weights.
pub record Graph : Type 0 where
  pub n : ℕ
  pub edges : List Edge

-- The lesser end stands first, and both ends are vertices.
pub record IsEdge (n : ℕ) (e : Edge) : Type 0 where
  pub first : 1 ≤ e.u
  pub ascends : e.u < e.v
  pub last : e.v ≤ n

-- (d.u, d.v) comes before (e.u, e.v) in the order of pairs.
pub record Precedes (d e : Edge) : Type 0 where
  pub first : d.u ≤ e.u
  pub second : d.u ≡ e.u → d.v < e.v

-- The edges ascend, so that each pair stands once, the limits hold, and each edge weighs at least 1.
pub record IsGraph (g : Graph) : Type 0 where
  pub vertices : g.n ≤ MAX_VERTICES
  pub size : length g.edges ≤ MAX_EDGES
  pub within : All (IsEdge g.n) g.edges
  pub ascending : AllPairs Precedes g.edges
  pub positive : All (λ e. 1 ≤ e.w) g.edges

-- One direction of an edge. A directed graph is a list of these.
pub record Arc : Type 0 where
  pub from : ℕ
  pub to : ℕ
  pub weight : ℕ

abbrev pub forward : Edge → Arc
forward e = record { from = e.u; to = e.v; weight = e.w }

abbrev pub backward : Edge → Arc
backward e = record { from = e.v; to = e.u; weight = e.w }

-- Both directions of each edge.
abbrev pub arcs_of : List Edge → List Arc
arcs_of [] = []
arcs_of (e ∷ edges) = forward e ∷ backward e ∷ arcs_of edges

-- The arcs that leave v, in the list's order.
abbrev pub arcs_from : List Arc → ℕ → List Arc
arcs_from arcs v = filter (λ a. a.from == v) arcs
