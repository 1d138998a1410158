use Rattle.std.proofs.Common.{arith, ap, sym, subst, length, List, All}
use Rattle.pg_base.specs.declared.TheConstants.{MAX_VERTICES}
use Rattle.pg_base.specs.declared.edges.Edge.{Edge}
use Rattle.pg_metis.specs.Pairing.{arcs_named}
use Rattle.pg_metis.specs.Sorting.{HasLowVertex, IsSortedStably}
use Rattle.pg_metis.proofs.NamedArcs.{length-named}
use Rattle.pg_metis.proofs.LowerEdges.{back_low, back_few, lower_from_sorted}
use Rattle.pg_metis.proofs.pairing.lower_edges.Goals as goal

pub sort_edges-requires-clause-within : goal.sort_edges-requires-clause-within
sort_edges-requires-clause-within c = subst (λ (es : List Edge). All HasLowVertex es) (sym c.in_ok-edges.ensures) (back_low (arcs_named c.args.arcs.now) c.requires.named)

pub sort_edges-requires-clause-size : goal.sort_edges-requires-clause-size
sort_edges-requires-clause-size c =
    let size = ap length c.in_ok-edges.ensures in
    omega (arith, size, back_few (arcs_named c.args.arcs.now), length-named c.args.arcs.now)

pub returns : goal.returns
returns c =
    lower_from_sorted MAX_VERTICES (arcs_named c.args.arcs.now) c.sort_edges.new.edges.items c.requires.named
    (subst (λ (es : List Edge). IsSortedStably (λ e. e.u) es c.sort_edges.new.edges.items) c.in_ok-edges.ensures c.in_ok-sort_edges.ensures)
