use Rattle.pg_metis.proofs.NamedArcs.{back_pushed, back_passed}
use Rattle.pg_metis.proofs.pairing.lower_in_order.Goals as goal
use Rattle.pg_metis.proofs.pairing.lower_in_order.Goals.{then-arc+in_ok-push, else-arc}

pub loop-arc-preserved : goal.loop-arc-preserved
loop-arc-preserved c =
    elim c.if-arc.branch [
      | then-arc+in_ok-push w ↦ let more = back_pushed c.args.arcs.now c.loop-arc.arc-index _ c.loop-arc-test.true w.if-arc.true in cc w.in_ok-push.ensures.items
      | else-arc w ↦ let same = back_passed c.args.arcs.now c.loop-arc.arc-index _ c.loop-arc-test.true w.if-arc.false in cc
    ]
