-- What one rank holds of a divided graph, and what is so of every such portion.
-- Source: Gregor and Lumsdaine, Lifting Sequential Graph Algorithms for Distributed-Memory Parallel
-- Computation (OOPSLA 2005): distributed adjacency lists and ghost cells.
use Rattle.std.specs.Prelude.{◌≡◌, ◌≢◌, ℕ, ◌<◌, ◌≤◌, List, length, All, AllPairs, slice_index}
use Rattle.pg_base.specs.declared.TheConstants.{MAX_VERTICES, MAX_EDGES}
use Rattle.pg_base.specs.Keyed.{AreBounds, row_of}
use Rattle.pg_adj.specs.declared.arcs.Arc.{Arc}
use Rattle.pg_adj.specs.declared.arcs.Ghost.{Ghost}
use Rattle.pg_adj.specs.declared.arcs.Holder.{Holder}

-- The own vertices by their places, their arcs and holders in compressed rows, and the ghosts.
pub record Portion : Type 0 where
  pub rank : ℕ
  pub ranks : ℕ
  pub n : ℕ
  pub vertices : List ℕ
  pub bounds : List ℕ
  pub arcs : List Arc
  pub ghosts : List Ghost
  pub holder_bounds : List ℕ
  pub holders : List Holder

-- A rank of the group that isn't the portion's own.
pub record IsForeign (p : Portion) (r : ℕ) : Type 0 where
  pub below : r < p.ranks
  pub other : r ≢ p.rank

-- An arc leads to a vertex of the graph. Where that is an own one, the arc's place holds it.
pub record IsOwnArc (p : Portion) (a : Arc) : Type 0 where
  pub first : 1 ≤ a.to.0
  pub last : a.to.0 ≤ p.n
  pub home : a.home.0 < p.ranks
  pub place : a.home.0 ≡ p.rank → a.place < length p.vertices
  pub holds : a.home.0 ≡ p.rank → slice_index p.vertices a.place ≡ a.to.0
  pub weight : 1 ≤ a.w
  pub edge : a.edge < MAX_EDGES

-- A vertex of the graph.
pub record IsVertex (n : ℕ) (v : ℕ) : Type 0 where
  pub first : 1 ≤ v
  pub last : v ≤ n

-- Own vertices, arcs, ghosts and holders lie within the graph and the group. Own vertices ascend, and so do the arcs of
-- a place by where they lead, the ghosts by vertex, and the holders of a place by rank. No ghost is an own vertex.
pub record IsPortion (p : Portion) : Type 0 where
  pub rank : p.rank < p.ranks
  pub n : p.n ≤ MAX_VERTICES
  pub count : length p.vertices ≤ p.n
  pub vertices : All (IsVertex p.n) p.vertices
  pub vertices_ascend : AllPairs (λ v w. v < w) p.vertices
  pub bounds : AreBounds (length p.vertices) p.bounds (length p.arcs)
  pub arcs : All (IsOwnArc p) p.arcs
  pub ascend : (i : ℕ) → i < length p.vertices → AllPairs (λ a b. a.to.0 < b.to.0) (row_of p.bounds p.arcs i)
  pub ghosts : All (λ g. IsForeign p g.home.0) p.ghosts
  pub ghost_vertices : All (λ g. IsVertex p.n g.vertex.0) p.ghosts
  pub ghosts_ascend : AllPairs (λ g h. g.vertex.0 < h.vertex.0) p.ghosts
  pub apart : All (λ g. All (λ v. v ≢ g.vertex.0) p.vertices) p.ghosts
  pub holder_bounds : AreBounds (length p.vertices) p.holder_bounds (length p.holders)
  pub holders : All (λ h. IsForeign p h.rank.0) p.holders
  pub holders_ascend : (i : ℕ) → i < length p.vertices → AllPairs (λ a b. a.rank.0 < b.rank.0) (row_of p.holder_bounds p.holders i)
