-- Two small graphs on which the definitions are shown.
use Rattle.std.specs.Prelude.{ℕ, List, [], ◌∷◌, if◌then◌else◌, ◌==◌}
use Rattle.pg_base.specs.declared.edges.Edge.{Edge}
use Rattle.pg_base.specs.Graph.{Graph, Arc}
use Rattle.pg_base.specs.Best.{Value}

abbrev pub edge : ℕ → ℕ → ℕ → Edge
edge first second weight = record { u = first; v = second; w = weight }

abbrev pub arc : ℕ → ℕ → ℕ → Arc
arc start end weight = record { from = start; to = end; weight = weight }

abbrev pub graph : ℕ → List Edge → Graph
graph n edges = record { n = n; edges = edges }

-- 1 --5-- 2 --2-- 3     4
abbrev pub path_edges : List Edge
path_edges = edge 1 2 5 ∷ edge 2 3 2 ∷ []

-- Three vertices, each two joined by an edge of weight 4.
abbrev pub triangle_edges : List Edge
triangle_edges = edge 1 2 4 ∷ edge 1 3 4 ∷ edge 2 3 4 ∷ []

-- The two edges of the triangle at vertex 1.
abbrev pub triangle_tree : List Edge
triangle_tree = edge 1 2 4 ∷ edge 1 3 4 ∷ []

-- Colours of the path: 1 for vertex 2 and 0 for the others, and the other way round.
abbrev pub middle_one : ℕ → ℕ
middle_one v = if v == 2 then 1 else 0

abbrev pub middle_zero : ℕ → ℕ
middle_zero v = if v == 2 then 0 else 1

-- 2 for vertex 2, which has no neighbour of colour 1.
abbrev pub middle_two : ℕ → ℕ
middle_two v = if v == 2 then 2 else 0

abbrev pub value : ℕ → ℕ → ℕ → Value
value class amount hops = record { class = class; amount = amount; hops = hops }
