-- What each rank has of a graph whose vertices are divided: the arcs that leave its own, with the keys and indices of
-- their edges.
use Rattle.std.specs.Prelude.{◌≡◌, ◌⊎◌, ℕ, ◌<◌, List, length, slice_index_or, All, Contains}
use Rattle.pg_base.specs.declared.edges.Edge.{Edge}
use Rattle.pg_base.specs.Graph.{Graph}
use Rattle.pg_base.specs.KeyLaws.{key_number}
use Rattle.pg_adj.specs.Division.{no_edge}

pub record LocalArc : Type 0 where
  pub from : ℕ
  pub to : ℕ
  pub key : ℕ
  pub edge : ℕ

-- A rank of so many, the numbers of the whole graph's vertices and edges, and the rank's arcs.
pub record Part : Type 0 where
  pub rank : ℕ
  pub ranks : ℕ
  pub n : ℕ
  pub edges : ℕ
  pub arcs : List LocalArc

abbrev pub edge_at : Graph → ℕ → Edge
edge_at g i = slice_index_or g.edges i no_edge

abbrev pub arc_of : Graph → ℕ → ℕ → ℕ → LocalArc
arc_of g i from to = record { from = from; to = to; key = key_number (edge_at g i) i; edge = i }

-- One direction of an edge of the graph.
pub record IsArc (g : Graph) (a : LocalArc) : Type 0 where
  pub edge : a.edge < length g.edges
  pub key : a.key ≡ key_number (edge_at g a.edge) a.edge
  pub ends : ((a.from ≡ (edge_at g a.edge).u) × (a.to ≡ (edge_at g a.edge).v)) ⊎ ((a.from ≡ (edge_at g a.edge).v) × (a.to ≡ (edge_at g a.edge).u))

-- Some rank has the arc.
pub record IsHeld (ranks : ℕ) (parts : ℕ → Part) (a : LocalArc) : Type 0 where
  pub rank : ℕ
  pub within : rank < ranks
  pub among : Contains (parts rank).arcs a

-- Both directions of each edge are arcs of ranks, and these have no other arcs.
pub record IsDivided (g : Graph) (ranks : ℕ) (parts : ℕ → Part) : Type 0 where
  pub rank : (r : ℕ) → r < ranks → (parts r).rank ≡ r
  pub group : (r : ℕ) → r < ranks → (parts r).ranks ≡ ranks
  pub vertices : (r : ℕ) → r < ranks → (parts r).n ≡ g.n
  pub edges : (r : ℕ) → r < ranks → (parts r).edges ≡ length g.edges
  pub forth : (i : ℕ) → i < length g.edges → IsHeld ranks parts (arc_of g i (edge_at g i).u (edge_at g i).v)
  pub back : (i : ℕ) → i < length g.edges → IsHeld ranks parts (arc_of g i (edge_at g i).v (edge_at g i).u)
  pub no_other : (r : ℕ) → r < ranks → All (IsArc g) (parts r).arcs
