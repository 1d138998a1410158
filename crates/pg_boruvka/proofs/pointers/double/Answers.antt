use Rattle.pg_boruvka.proofs.PointerWalks.{doubling_none, doubling_more, doubling_same}
use Rattle.pg_boruvka.proofs.pointers.double.Goals as goal
use Rattle.pg_boruvka.proofs.pointers.double.Goals.{then-after-next, else-after-next}

pub loop-label-init : goal.loop-label-init
loop-label-init c = doubling_none c.args.pointers.now c.requires

pub loop-label-preserved : goal.loop-label-preserved
loop-label-preserved c =
    let more = doubling_more c.args.pointers.now c.loop-label.pointers c.loop-label.label c.loop-label.changed c.requires c.loop-label-test.true c.loop-label.invariant in
    elim c.if-after-next.branch [
      | then-after-next w ↦ rw (w.pointers-is, w.changed-is) more
      | else-after-next w ↦ rw (w.pointers-is, w.changed-is)
          (doubling_same c.args.pointers.now c.loop-label.pointers c.loop-label.label c.loop-label.changed c.requires c.loop-label-test.true w.if-after-next.false c.loop-label.invariant)
    ]
