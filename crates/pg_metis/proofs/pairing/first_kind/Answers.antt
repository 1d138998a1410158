use Rattle.std.proofs.Common.{arith, refl}
use Rattle.pg_metis.specs.declared.faults.Kind.TheVariants.{NoMirror, MirrorWeight}
use Rattle.pg_metis.proofs.NamedArcs.{is_named, to_below}
use Rattle.pg_metis.proofs.Weights.{missing_here, weight_here, mirrored_here, kind_here, mirrored_more, none_left}
use Rattle.pg_metis.proofs.pairing.first_kind.Goals as goal
use Rattle.pg_metis.proofs.pairing.first_kind.Goals.{then-arc-vertex+else-weight-eq0+else-weight-arc, else-arc-vertex}

pub overflow_sub-weight : goal.overflow_sub-weight
overflow_sub-weight c = (is_named _ c.args.arcs.now c.loop-arc.arc-index _ c.requires.named c.loop-arc-test.true).to_first

pub bounds-weights-arc : goal.bounds-weights-arc
bounds-weights-arc c = to_below _ _ c.args.arcs.now c.loop-arc.arc-index _ refl c.requires.named c.loop-arc-test.true

pub returns-then-weight-eq0 : goal.returns-then-weight-eq0
returns-then-weight-eq0 c =
    kind_here c.args.arcs.now _ c.args.vertex c.loop-arc.arc-index _ c.requires.named c.loop-arc-test.true NoMirror c.requires.found c.if-arc-vertex.true
    (missing_here c.args.arcs.now _ c.args.vertex c.loop-arc.arc-index _ c.requires.named c.loop-arc-test.true c.args.weights.now c.requires.weights c.if-arc-vertex.true c.if-weight-eq0.true)
    c.loop-arc.invariant

pub returns-then-weight-arc : goal.returns-then-weight-arc
returns-then-weight-arc c =
    kind_here c.args.arcs.now _ c.args.vertex c.loop-arc.arc-index _ c.requires.named c.loop-arc-test.true MirrorWeight c.requires.found c.if-arc-vertex.true
    (weight_here c.args.arcs.now _ c.args.vertex c.loop-arc.arc-index _ c.requires.named c.loop-arc-test.true c.args.weights.now c.requires.weights c.if-arc-vertex.true (omega arith) c.if-weight-eq0.false c.if-weight-arc.true)
    c.loop-arc.invariant

pub loop-arc-preserved : goal.loop-arc-preserved
loop-arc-preserved c =
    elim c.if-arc-vertex.branch [
      | then-arc-vertex+else-weight-eq0+else-weight-arc w ↦ mirrored_more c.args.arcs.now _ c.args.vertex c.loop-arc.arc-index _ c.requires.named c.loop-arc-test.true c.loop-arc.invariant
          (λ own. mirrored_here c.args.arcs.now _ c.args.vertex c.loop-arc.arc-index _ c.requires.named c.loop-arc-test.true c.args.weights.now c.requires.weights own (omega arith) w.if-weight-eq0.false w.if-weight-arc.false)
      | else-arc-vertex w ↦ mirrored_more c.args.arcs.now _ c.args.vertex c.loop-arc.arc-index _ c.requires.named c.loop-arc-test.true c.loop-arc.invariant (λ own. absurd (w.if-arc-vertex.false own))
    ]

pub unreachable-requires : goal.unreachable-requires
unreachable-requires c = none_left c.args.arcs.now c.args.vertex c.loop-arc.arc-index c.loop-arc-test.false c.requires.found c.loop-arc.invariant
