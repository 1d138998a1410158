use Rattle.std.proofs.Common.{◌≡◌, take}
use Rattle.pg_metis.specs.Mirrors.{back_edges}
use Rattle.pg_metis.specs.Pairing.{arcs_named}
use Rattle.pg_metis.proofs.pairing.lower_in_order.Given as goal

abbrev pub invariant-loop-arc : goal.invariant-loop-arc
invariant-loop-arc l = l.edges.items ≡ back_edges (take l.arc-index (arcs_named l.arcs))
