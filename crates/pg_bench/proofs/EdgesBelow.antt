-- The arcs of a divided graph are of the graph's edges.
use Rattle.std.proofs.Common.{◌≡◌, List, All, length, arith}
use Rattle.pg_base.specs.Graph.{Graph, IsGraph}
use Rattle.pg_dist.specs.Sharing.{Sharing, IsSharing}
use Rattle.pg_adj.specs.Portions.{Portion}
use Rattle.pg_adj.specs.Division.{Divided}
use Rattle.pg_boruvka.proofs.Divisions.{divisions_serve}
use Rattle.pg_bench.specs.Divisions.{HasEdgesBelow}

pub edges_below : (s : Sharing) (g : Graph) (parts : List Portion) → IsSharing s → IsGraph g → g.n ≡ s.n → Divided s g parts → All (HasEdgesBelow (length g.edges)) parts
edges_below s g parts laws is same d r other h k a within =
    ((divisions_serve s g parts other laws is same d).no_other r (omega (arith, d.count, h)) k a within).edge
