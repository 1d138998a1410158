use Rattle.std.proofs.Common.{arith, sym, subst, ◌+◌, ◌∙◌}
use Rattle.pg_metis.specs.declared.pairing.Place.{Place}
use Rattle.pg_metis.proofs.Matching.{IsMatched, edge_equal, matched_greater, matched_lesser}
use Rattle.pg_metis.proofs.pairing.match_line.Goals as goal
use Rattle.pg_metis.proofs.pairing.match_line.Goals.{then-arc-u+else-next-edges+else-ne, else-arc-u}

pub loop-next-preserved : goal.loop-next-preserved
loop-next-preserved c =
    elim c.if-arc-u.branch [
      | then-arc-u+else-next-edges+else-ne w ↦ subst (λ (p : Place). IsMatched c.args.u c.args.arcs.now c.args.edges.now c.args.place.arcs c.args.place.edges (p.arcs + 1) p.edges) (sym w.next-is)
          (matched_greater c.args.u c.args.arcs.now c.args.edges.now c.args.place.arcs c.args.place.edges c.loop-next.next.arcs c.loop-next.next.edges _ _ c.loop-next.invariant c.loop-next-test.true c.if-arcs-next.true
          w.if-arc-u.true (omega (arith, w.if-next-edges.false)) (edge_equal _ w.edge_to.result w.ne.result w.ne.ensures w.if-ne.false ∙ w.edge_to.ensures))
      | else-arc-u w ↦ subst (λ (p : Place). IsMatched c.args.u c.args.arcs.now c.args.edges.now c.args.place.arcs c.args.place.edges (p.arcs + 1) p.edges) (sym w.next-is)
          (matched_lesser c.args.u c.args.arcs.now c.args.edges.now c.args.place.arcs c.args.place.edges c.loop-next.next.arcs c.loop-next.next.edges _ c.loop-next.invariant c.loop-next-test.true c.if-arcs-next.true
          w.if-arc-u.false)
    ]
