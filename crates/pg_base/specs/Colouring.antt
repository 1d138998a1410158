-- Proper colourings with no more colours than first fit needs, and first fit itself.
-- Source: Diestel, Graph Theory, chapter 5 (proper colourings, the greedy algorithm and its bound by the degree).
use Rattle.std.specs.Prelude.{◌≡◌, ◌≢◌, ◌⊎◌, ℕ, ◌-◌, ◌<◌, ◌≤◌, ◌||◌, ◌==◌, List, length, slice_index, count_by, All, Contains}
use Rattle.pg_base.specs.declared.edges.Edge.{Edge}
use Rattle.pg_base.specs.Graph.{Graph}

-- How many edges have v as an end.
abbrev pub degree : List Edge → ℕ → ℕ
degree edges v = count_by (λ e. e.u == v || e.v == v) edges

-- No edge has ends of one colour, and a vertex's colour is at most its degree.
pub record IsProper (g : Graph) (colour : ℕ → ℕ) : Type 0 where
  pub apart : All (λ e. colour e.u ≢ colour e.v) g.edges
  pub bounded : (v : ℕ) → 1 ≤ v → v ≤ g.n → colour v ≤ degree g.edges v

-- Colours as a list: the colour of v stands at place v - 1.
abbrev pub colour_in : List ℕ → ℕ → ℕ
colour_in colours v = slice_index colours (v - 1)

-- One colour for each vertex, and they are proper.
pub record AreProper (g : Graph) (colours : List ℕ) : Type 0 where
  pub count : length colours ≡ g.n
  pub proper : IsProper g (colour_in colours)

-- An edge has v as one end and w as the other.
pub record AreJoined (edges : List Edge) (v w : ℕ) : Type 0 where
  pub edge : Edge
  pub among : Contains edges edge
  pub ends : ((edge.u ≡ v) × (edge.v ≡ w)) ⊎ ((edge.u ≡ w) × (edge.v ≡ v))

-- Each vertex has the least number that no lesser neighbour has.
pub record IsFirstFit (g : Graph) (colour : ℕ → ℕ) : Type 0 where
  pub free : (u v : ℕ) → AreJoined g.edges v u → u < v → colour u ≢ colour v
  pub least : (v d : ℕ) → 1 ≤ v → v ≤ g.n → d < colour v → (u : ℕ) × (u < v) × AreJoined g.edges v u × (colour u ≡ d)
