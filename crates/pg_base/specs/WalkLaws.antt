-- What follows from the definitions of arcs and walks alone.
-- Source: Cormen, Leiserson, Rivest and Stein, Introduction to Algorithms, appendix B.4.
use Rattle.std.specs.Prelude.{◌≡◌, ◌↔◌, ◌⊎◌, ℕ, ◌≤◌, Option, List, ◌++◌, All, Contains}
use Rattle.pg_base.specs.declared.edges.Edge.{Edge}
use Rattle.pg_base.specs.Graph.{Graph, IsGraph, Arc, forward, backward, arcs_of, arcs_from}
use Rattle.pg_base.specs.Walk.{IsWalk, Joins, Least, IsLowest}

-- The arcs of a list of edges are its edges in either direction.
abbrev pub ArcsAreEdges : Type 0
ArcsAreEdges = (edges : List Edge) (a : Arc) → Contains (arcs_of edges) a ↔ ((e : Edge) × Contains edges e × ((a ≡ forward e) ⊎ (a ≡ backward e)))

-- The arcs from v are the arcs whose start is v.
abbrev pub ArcsFromLeave : Type 0
ArcsFromLeave = (arcs : List Arc) (v : ℕ) (a : Arc) → Contains (arcs_from arcs v) a ↔ (Contains arcs a × (a.from ≡ v))

-- A walk of a graph that begins at a vertex ends at one.
abbrev pub WalksStayWithin : Type 0
WalksStayWithin = (g : Graph) → IsGraph g → (s v : ℕ) → 1 ≤ s → s ≤ g.n → Joins (arcs_of g.edges) s v → (1 ≤ v) × (v ≤ g.n)

-- A walk from s to v, then one from v to w, is a walk from s to w.
abbrev pub WalksCompose : Type 0
WalksCompose = (arcs : List Arc) (s v w : ℕ) (p q : List Arc) → IsWalk arcs s p v → IsWalk arcs v q w → IsWalk arcs s (p ++ q) w

-- Where every arc of one list joins its ends in another, the other joins whatever the one joins.
abbrev pub WalksRefine : Type 0
WalksRefine = (arcs others : List Arc) → All (λ a. Joins others a.from a.to) arcs → (s v : ℕ) → Joins arcs s v → Joins others s v

-- Along undirected edges what leads there leads back.
abbrev pub WalksTurnRound : Type 0
WalksTurnRound = (edges : List Edge) (s v : ℕ) → Joins (arcs_of edges) s v → Joins (arcs_of edges) v s

-- No two answers are the least measure between the same ends.
abbrev pub LeastIsOne : Type 0
LeastIsOne = (measure : List Arc → ℕ) (arcs : List Arc) (s v : ℕ) (a b : Option ℕ) → Least measure arcs s v a → Least measure arcs s v b → a ≡ b

-- No two vertices are the least from which a walk leads to v.
abbrev pub LowestIsOne : Type 0
LowestIsOne = (arcs : List Arc) (v a b : ℕ) → IsLowest arcs v a → IsLowest arcs v b → a ≡ b
