use Rattle.std.proofs.Common.{arith, length}
use Rattle.pg_metis.proofs.NamedArcs.{is_named_here}
use Rattle.pg_metis.proofs.Marking.{line_longer, line_stops, line_taken}
use Rattle.pg_metis.proofs.pairing.look_at_line.Goals as goal

pub meets-requires : goal.meets-requires
meets-requires c = is_named_here (length c.args.marks.now) (length c.loop-end.marks) c.args.arcs.now c.loop-end.end _ c.loop-end.auto.marks c.requires.named c.loop-end-test.true

pub returns-then-not-meets-clause-unpaired : goal.returns-then-not-meets-clause-unpaired
returns-then-not-meets-clause-unpaired c =
    line_stops c.args.arcs.now c.args.u c.args.begin c.loop-end.end _ c.args.marks.now c.loop-end.marks c.requires.named c.loop-end.invariant.rises c.loop-end-test.true c.loop-end.invariant.line c.if-arcs-end.true
    c.loop-end.invariant.marks c.if-not-meets.ensures

pub loop-end-preserved : goal.loop-end-preserved
loop-end-preserved c = record {
  rises = omega arith;
  within = omega arith;
  line = line_longer c.args.arcs.now c.args.u c.args.begin c.loop-end.end _ c.loop-end.invariant.rises c.loop-end-test.true c.loop-end.invariant.line c.if-arcs-end.true;
  marks = line_taken c.args.arcs.now c.args.u c.args.begin c.loop-end.end _ c.args.marks.now c.loop-end.marks c.meets.new.marks c.requires.named c.loop-end.invariant.rises c.loop-end-test.true c.loop-end.auto.marks
      c.loop-end.invariant.line c.if-arcs-end.true c.loop-end.invariant.marks c.if-not-meets.ensures;
}
