-- What follows from the definition of the least spanning forest alone, for any list of edges.
-- Source: Cormen, Leiserson, Rivest and Stein, Introduction to Algorithms, chapter 23; Tarjan, Data Structures and
-- Network Algorithms, chapter 6.
use Rattle.std.specs.Prelude.{◌≡◌, ◌≢◌, ◌⊎◌, ◌↔◌, ℕ, ◌<◌, ◌≤◌, Bool, true, List, ◌++◌, length, map, slice_index_or, All, AllPairs, Contains}
use Rattle.pg_base.specs.declared.edges.Edge.{Edge}
use Rattle.pg_base.specs.Graph.{Arc, arcs_of, Precedes}
use Rattle.pg_base.specs.Walk.{Joins}
use Rattle.pg_base.specs.Forest.{key_lt, lesser_edges, InForest, HasForest, IsForest, Spans, total_weight}

-- Whether arcs join two vertices has an answer.
abbrev pub JoiningIsDecided : Type 0
JoiningIsDecided = (arcs : List Arc) (s v : ℕ) → Joins arcs s v ⊎ (Joins arcs s v → ⊥)

-- So has whether an edge is in the forest.
abbrev pub ForestIsDecided : Type 0
ForestIsDecided = (edges : List Edge) (e : Edge) → InForest edges e ⊎ (InForest edges e → ⊥)

-- An edge that leaves a set of vertices is in the forest if no lesser edge leaves that set.
abbrev pub LeastLeavingIsIn : Type 0
LeastLeavingIsIn = (edges : List Edge) (e : Edge) (inside : ℕ → Bool) → Contains edges e → inside e.u ≢ inside e.v → ((d : Edge) → Contains edges d → key_lt d e ≡ true → inside d.u ≡ inside d.v) → InForest edges e

-- The forest's edges with keys below k's join whatever all edges with such keys join.
abbrev pub LesserForestJoins : Type 0
LesserForestJoins = (edges forest : List Edge) → HasForest edges forest → (k : Edge) (s v : ℕ) → Joins (arcs_of (lesser_edges edges k)) s v → Joins (arcs_of (lesser_edges forest k)) s v

-- The forest's edges join whatever the edges join.
abbrev pub ForestJoins : Type 0
ForestJoins = (edges forest : List Edge) → HasForest edges forest → (s v : ℕ) → Joins (arcs_of edges) s v → Joins (arcs_of forest) s v

-- A part of the forest that joins whatever the edges join has all of the forest.
abbrev pub SpanningPartIsAll : Type 0
SpanningPartIsAll = (edges tree : List Edge) → All (InForest edges) tree → ((s v : ℕ) → Joins (arcs_of edges) s v → Joins (arcs_of tree) s v) → HasForest edges tree

-- No edges that span weigh less than the forest's edges, each once.
abbrev pub NoneUndercuts : Type 0
NoneUndercuts = (edges forest tree : List Edge) → All (InForest edges) forest → AllPairs (λ d e. d ≢ e) forest → Spans edges tree → total_weight forest ≤ total_weight tree

-- Edges that ascend have a forest, and one only.
abbrev pub ForestExists : Type 0
ForestExists = (edges : List Edge) → AllPairs Precedes edges → (forest : List Edge) × IsForest edges forest

abbrev pub ForestIsOne : Type 0
ForestIsOne = (edges first second : List Edge) → IsForest edges first → IsForest edges second → first ≡ second

-- The forest spans, and nothing that spans weighs less.
abbrev pub ForestIsLeast : Type 0
ForestIsLeast = (edges forest : List Edge) → IsForest edges forest → Spans edges forest × ((tree : List Edge) → Spans edges tree → total_weight forest ≤ total_weight tree)

-- Edges among others that have all of their forest have the same forest.
abbrev pub PartHasSameForest : Type 0
PartHasSameForest = (edges part : List Edge) → All (Contains edges) part → HasForest edges part → (e : Edge) → InForest edges e ↔ InForest part e

-- The forest of two lists together is that of their forests together.
abbrev pub ForestsMerge : Type 0
ForestsMerge = (edges others first second : List Edge) → IsForest edges first → IsForest others second → (e : Edge) → InForest (edges ++ others) e ↔ InForest (first ++ second) e

-- Ascending indices of exactly the forest's edges give the forest.
abbrev pub IndicesGiveForest : Type 0
IndicesGiveForest = (edges : List Edge) (other : Edge) (indices : List ℕ) → AllPairs Precedes edges → AllPairs (λ i j. i < j) indices → ((i : ℕ) → Contains indices i ↔ ((i < length edges) × InForest edges (slice_index_or edges i other))) → IsForest edges (map (λ i. slice_index_or edges i other) indices)
