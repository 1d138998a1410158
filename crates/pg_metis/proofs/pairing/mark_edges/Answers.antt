use Rattle.std.proofs.Common.{arith, ◌≡◌}
use Rattle.pg_metis.proofs.Marking.{all_longer, row_marked}
use Rattle.pg_metis.proofs.pairing.mark_edges.Goals as goal

pub loop-end-preserved : goal.loop-end-preserved
loop-end-preserved c = record {
  rises = omega arith;
  within = omega arith;
  row = all_longer (λ e. e.u ≡ c.args.u) c.args.edges.now c.args.begin c.loop-end.end _ c.loop-end.invariant.rises (omega arith) c.loop-end.invariant.row c.if-edges-end.true;
  marks = row_marked c.args.edges.now c.args.u c.args.begin c.loop-end.end _ c.args.marks.now c.loop-end.marks c.mark_edge.new.marks c.requires.within c.requires.ascending c.loop-end.invariant.rises (omega arith) (omega arith)
      c.loop-end.invariant.row c.if-edges-end.true c.loop-end.invariant.marks c.mark_edge.ensures;
}
