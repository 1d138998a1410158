-- Colouring on several ranks: passes, and between them a look at the ghosts' colours for clashes.
-- Source: Boman, Bozdağ, Catalyurek, Gebremedhin and Manne, A scalable parallel graph coloring algorithm for
-- distributed memory computers (Euro-Par 2005).
use Rattle.std.specs.Prelude.{◌≡◌, ◌≢◌, ◌↔◌, ◌==◌, cond, ℕ, zero, suc, ◌<◌, ◌≤◌, List, [], Some, None, AllPairs, Contains}
use Rattle.pg_base.specs.Graph.{Graph, IsGraph}
use Rattle.pg_base.specs.Colouring.{AreJoined}
use Rattle.pg_proper.specs.Passes.{Colours, Passes}

-- A graph, who owns its vertices, each rank's own vertices, and for each rank r and number j of a pass, from 0: the
-- list that r goes through, its vertices' colours after the pass, and its ghosts' colours after the refreshing round
-- that follows.
pub record Run : Type 0 where
  pub graph : Graph
  pub ranks : ℕ
  pub owner : ℕ → ℕ
  pub own : ℕ → List ℕ
  pub list : ℕ → ℕ → List ℕ
  pub colours : ℕ → ℕ → Colours
  pub seen : ℕ → ℕ → Colours

-- u belongs to another rank and is joined to an own vertex v of r.
pub record IsGhost (run : Run) (r u v : ℕ) : Type 0 where
  pub own : Contains (run.own r) v
  pub away : run.owner u ≢ r
  pub joined : AreJoined run.graph.edges u v

-- v is the greater end of an edge from another rank whose ends have one colour, as far as r has seen.
pub record IsClash (run : Run) (r j v : ℕ) : Type 0 where
  pub lesser : ℕ
  pub below : lesser < v
  pub ghost : IsGhost run r lesser v
  pub same : run.seen r j lesser ≡ run.colours r j v

-- What r knows as pass j begins: no colours at first, then its own and what it has seen after the pass before.
abbrev pub known : Run → ℕ → ℕ → Colours
known run r zero = λ v. None
known run r (suc j) = λ v. cond (run.owner v == r) (run.colours r j v) (run.seen r j v)

-- The rules, kept by all ranks up to pass `last`. The first list is all own vertices and each further one the clashes,
-- in ascending order; a pass begins with what its rank knows; and what a rank has seen of a ghost is its owner's
-- colour.
pub record IsRun (run : Run) (last : ℕ) : Type 0 where
  pub graph : IsGraph run.graph
  pub owned : (v : ℕ) → 1 ≤ v → v ≤ run.graph.n → run.owner v < run.ranks
  pub owns : (r v : ℕ) → r < run.ranks → Contains (run.own r) v ↔ ((1 ≤ v) × (v ≤ run.graph.n) × (run.owner v ≡ r))
  pub ascends : (r j : ℕ) → r < run.ranks → j ≤ last → AllPairs (λ v w. v < w) (run.list r j)
  pub begins : (r : ℕ) → r < run.ranks → run.list r 0 ≡ run.own r
  pub goes_on : (r j v : ℕ) → r < run.ranks → j < last
      → Contains (run.list r (suc j)) v ↔ (Contains (run.own r) v × IsClash run r j v)
  pub passes : (r j : ℕ) → r < run.ranks → j ≤ last
      → Passes run.graph.edges (run.own r) (run.list r j) (known run r j) (run.colours r j)
  pub fresh : (r j u v : ℕ) → r < run.ranks → j < last → IsGhost run r u v → run.seen r j u ≡ run.colours (run.owner u) j u

-- No rank has a vertex to colour any more. For the first pass that means that there are no vertices.
abbrev pub HasEnded : Run → ℕ → Type 0
HasEnded run last = (r : ℕ) → r < run.ranks → run.list r last ≡ []

-- These are the owners' colours after the last pass.
abbrev pub IsAnswer : Run → ℕ → (ℕ → ℕ) → Type 0
IsAnswer run last colour = (v : ℕ) → 1 ≤ v → v ≤ run.graph.n → run.colours (run.owner v) last v ≡ Some (colour v)
