-- A portion of a divided graph, as the law has it.
use Rattle.std.specs.Prelude.{◌≡◌, ℕ, zero, suc, ◌+◌, ◌*◌, List, [], ◌++◌, length, map, slice_index, slice_index_or}
use Rattle.pg_base.specs.declared.TheConstants.{MAX_EDGES}
use Rattle.pg_base.specs.Graph.{Graph, IsGraph}
use Rattle.pg_base.specs.Keyed.{row_of}
use Rattle.pg_dist.specs.Sharing.{Sharing, IsSharing}
use Rattle.pg_adj.specs.declared.arcs.Arc.{Arc}
use Rattle.pg_adj.specs.Portions.{Portion}
use Rattle.pg_adj.specs.Division.{Divided}
use Rattle.pg_boruvka.specs.Parts.{LocalArc, Part, IsDivided}

-- An arc from the vertex v.
abbrev pub local_of : ℕ → Arc → LocalArc
local_of v a = record { from = v; to = a.to.0; key = a.w * MAX_EDGES + a.edge; edge = a.edge }

-- The arcs of the first places.
abbrev pub arcs_below : Portion → ℕ → List LocalArc
arcs_below p zero = []
arcs_below p (suc i) = arcs_below p i ++ map (local_of (slice_index p.vertices i)) (row_of p.bounds p.arcs i)

-- The portion of a graph with so many edges.
abbrev pub part_of : ℕ → Portion → Part
part_of edges p = record { rank = p.rank; ranks = p.ranks; n = p.n; edges = edges; arcs = arcs_below p (length p.vertices) }

-- The portions of a graph that is divided by a distribution have both directions of each edge.
abbrev pub DivisionsServe : Type 0
DivisionsServe = (s : Sharing) (g : Graph) (parts : List Portion) (other : Portion) → IsSharing s → IsGraph g → g.n ≡ s.n → Divided s g parts
    → IsDivided g s.ranks (λ r. part_of (length g.edges) (slice_index_or parts r other))
