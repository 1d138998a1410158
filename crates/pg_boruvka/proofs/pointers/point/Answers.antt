use Rattle.std.proofs.Common.{arith}
use Rattle.pg_boruvka.proofs.PointerPairs.{pointing_none, pointing_more, pointing_same}
use Rattle.pg_boruvka.proofs.pointers.point.Goals as goal
use Rattle.pg_boruvka.proofs.pointers.point.Goals.{then-label-target+then-targets-target, else-label-target, else-label-target-via-then-label-target+else-targets-target, else-label-target-via-else-label-target}

pub loop-label-init : goal.loop-label-init
loop-label-init c = pointing_none c.args.targets.now c.requires.within

pub loop-label-preserved : goal.loop-label-preserved
loop-label-preserved c =
    elim c.if-label-target.branch [
      | then-label-target+then-targets-target w ↦ rw w.targets-is
          (pointing_more c.args.targets.now c.loop-label.targets c.loop-label.label c.loop-label-test.true c.loop-label.invariant w.if-label-target.true w.if-targets-target.true)
      | else-label-target w ↦ rw w.targets-is
          (pointing_same c.args.targets.now c.loop-label.targets c.loop-label.label c.loop-label.invariant
          (λ less back. elim w.else-label-target.branch [
            | else-label-target-via-then-label-target+else-targets-target v ↦ v.if-targets-target.false back
            | else-label-target-via-else-label-target v ↦ absurd (omega (arith, less, v.if-label-target.false))
          ]))
    ]
