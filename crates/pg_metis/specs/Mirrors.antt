-- Which arcs have equal mirrors, and the edges of arcs.
use Rattle.std.specs.Prelude.{◌≡◌, ◌≢◌, ℕ, ◌+◌, ◌-◌, ◌<◌, nat_lt, Option, List, length, map, filter, slice_index, All, AllPairs, Contains}
use Rattle.std.specs.Option.{option_map}
use Rattle.pg_base.specs.declared.edges.Edge.{Edge}
use Rattle.pg_base.specs.Graph.{Arc, Precedes, backward}
use Rattle.pg_metis.specs.Fault.{first_unmirrored}

-- The arc's other direction.
abbrev pub turned : Arc → Arc
turned a = record { from = a.to; to = a.from; weight = a.weight }

-- The vertex of the first arc without an equal mirror.
abbrev pub first_vertex : List Arc → Option ℕ
first_vertex arcs = option_map (λ found. found.vertex) (first_unmirrored arcs arcs)

-- The edge of an arc to a lesser vertex.
abbrev pub edge_back : Arc → Edge
edge_back a = record { u = a.to; v = a.from; w = a.weight }

-- The edges of the arcs to lesser vertices, in the order of the arcs.
abbrev pub back_edges : List Arc → List Edge
back_edges arcs = map edge_back (filter (λ a. nat_lt a.to a.from) arcs)

-- The edge of an arc to a greater vertex.
abbrev pub edge_forth : Arc → Edge
edge_forth a = record { u = a.from; v = a.to; w = a.weight }

-- The edges of these arcs to greater vertices, in the order of the arcs.
abbrev pub forth_edges : List Arc → List Edge
forth_edges arcs = map edge_forth (filter (λ a. nat_lt a.from a.to) arcs)

-- The edges of the arcs to lesser vertices, ascending.
pub record AreLowerEdges (arcs : List Arc) (edges : List Edge) : Type 0 where
  pub ascending : AllPairs Precedes edges
  pub rising : All (λ e. e.u < e.v) edges
  pub told : All (λ e. Contains arcs (backward e)) edges
  pub each : All (λ a. a.to < a.from → Contains edges (edge_back a)) arcs

-- The weights of the arcs from each vertex to one, or 0.
pub record AreWeightsTo (vertex : ℕ) (arcs : List Arc) (weights : List ℕ) : Type 0 where
  pub told : (i : ℕ) → i < length weights → slice_index weights i ≢ 0 → Contains arcs (record { from = i + 1; to = vertex; weight = slice_index weights i })
  pub each : All (λ a. a.to ≡ vertex → slice_index weights (a.from - 1) ≡ a.weight) arcs
