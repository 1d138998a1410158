-- The least spanning forest, defined by the cycle property, and what it means to span.
-- Source: Cormen, Leiserson, Rivest and Stein, Introduction to Algorithms, chapter 23; Tarjan, Data
-- Structures and Network Algorithms, chapter 6 (an edge is out exactly where lesser edges join its ends).
use Rattle.std.specs.Prelude.{◌↔◌, ℕ, Bool, ◌&&◌, ◌||◌, ◌==◌, nat_lt, List, filter, sum_by, All, AllPairs, Contains}
use Rattle.pg_base.specs.declared.edges.Edge.{Edge}
use Rattle.pg_base.specs.Graph.{Precedes, arcs_of}
use Rattle.pg_base.specs.Walk.{Joins}

-- (d.w, d.u, d.v) is less than (e.w, e.u, e.v) in the order of triples.
abbrev pub key_lt : Edge → Edge → Bool
key_lt d e = nat_lt d.w e.w || (d.w == e.w && (nat_lt d.u e.u || (d.u == e.u && nat_lt d.v e.v)))

abbrev pub lesser_edges : List Edge → Edge → List Edge
lesser_edges edges e = filter (λ d. key_lt d e) edges

-- An edge whose ends no walk of lesser edges joins.
pub record InForest (edges : List Edge) (e : Edge) : Type 0 where
  pub among : Contains edges e
  pub needed : Joins (arcs_of (lesser_edges edges e)) e.u e.v → ⊥

-- The list has every edge of the forest.
abbrev pub HasForest : List Edge → List Edge → Type 0
HasForest edges list = (e : Edge) → InForest edges e → Contains list e

-- The forest's edges, ascending, each once.
pub record IsForest (edges forest : List Edge) : Type 0 where
  pub exactly : (e : Edge) → Contains forest e ↔ InForest edges e
  pub ascending : AllPairs Precedes forest

-- Edges of the graph that join whatever the graph joins.
pub record Spans (edges tree : List Edge) : Type 0 where
  pub among : All (Contains edges) tree
  pub joins : (s v : ℕ) → Joins (arcs_of edges) s v → Joins (arcs_of tree) s v

abbrev pub total_weight : List Edge → ℕ
total_weight edges = sum_by (λ e. e.w) edges
