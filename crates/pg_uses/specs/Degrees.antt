-- The degrees of a graph, and of one rank's part of it.
-- Source: Diestel, Graph Theory, chapter 1 (the degree of a vertex, the maximum degree of a graph).
use Rattle.std.specs.Prelude.{◌≡◌, ◌<◌, ◌≤◌, ℕ, length}
use Rattle.pg_base.specs.Colouring.{degree}
use Rattle.pg_base.specs.Graph.{Graph}
use Rattle.pg_base.specs.Keyed.{row_of}
use Rattle.pg_adj.specs.Portions.{Portion}
use Rattle.pg_uses.specs.Greatest.{IsGreatest}

-- A vertex of the graph has this degree.
pub record IsDegree (g : Graph) (d : ℕ) : Type 0 where
  pub vertex : ℕ
  pub first : 1 ≤ vertex
  pub last : vertex ≤ g.n
  pub has : degree g.edges vertex ≡ d

-- The maximum degree of the graph, 0 where it has no vertex.
abbrev pub IsGreatestDegree : Graph → ℕ → Type 0
IsGreatestDegree g = IsGreatest (IsDegree g)

-- An own vertex of the part has this many arcs.
pub record IsOwnDegree (p : Portion) (d : ℕ) : Type 0 where
  pub place : ℕ
  pub within : place < length p.vertices
  pub has : length (row_of p.bounds p.arcs place) ≡ d
