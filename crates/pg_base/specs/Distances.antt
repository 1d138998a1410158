-- The least numbers of arcs from one vertex to all.
-- Source: Cormen, Leiserson, Rivest and Stein, Introduction to Algorithms, chapter 22.2.
use Rattle.std.specs.Prelude.{◌≡◌, ℕ, ◌+◌, ◌<◌, Option, None, List, length, slice_index_or}
use Rattle.pg_base.specs.Graph.{Graph, arcs_of}
use Rattle.pg_base.specs.Walk.{LeastArcs}

-- Place v - 1 holds the least number of arcs of a walk from s to v.
pub record AreLeastArcs (g : Graph) (s : ℕ) (distances : List (Option ℕ)) : Type 0 where
  pub count : length distances ≡ g.n
  pub each : (v : ℕ) → v < g.n → LeastArcs (arcs_of g.edges) s (v + 1) (slice_index_or distances v None)
