-- The degrees of a vertex's neighbours.
-- Source: Diestel, Graph Theory, chapter 1 (neighbours, the degree of a vertex).
use Rattle.std.specs.Prelude.{◌≡◌, ◌-◌, ◌≤◌, ℕ, List, length, slice_index}
use Rattle.pg_base.specs.Colouring.{AreJoined, degree}
use Rattle.pg_base.specs.Graph.{Graph}
use Rattle.pg_uses.specs.Greatest.{IsGreatest}

-- A neighbour of v has this degree.
pub record IsNeighbourDegree (g : Graph) (v d : ℕ) : Type 0 where
  pub neighbour : ℕ
  pub joined : AreJoined g.edges v neighbour
  pub has : degree g.edges neighbour ≡ d

-- A number for each vertex, at place v - 1 that of v: the greatest degree among its neighbours, 0 where it has none.
pub record AreNeighbourDegrees (g : Graph) (degrees : List ℕ) : Type 0 where
  pub count : length degrees ≡ g.n
  pub greatest : (v : ℕ) → 1 ≤ v → v ≤ g.n → IsGreatest (IsNeighbourDegree g v) (slice_index degrees (v - 1))
