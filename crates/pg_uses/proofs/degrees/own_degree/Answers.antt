use Rattle.std.proofs.Common.{◌+◌, length, sym, ap, subst, arith}
use Rattle.pg_uses.specs.Greatest.{IsGreatest}
use Rattle.pg_uses.proofs.Counting.{IsDegreeBelow, one_more, all_below}
use Rattle.pg_uses.proofs.Greatests.{maxed}
use Rattle.pg_uses.proofs.degrees.own_degree.Goals as goal

pub loop-place-preserved : goal.loop-place-preserved
loop-place-preserved c =
    let part = c.args.part.now in
    subst (IsGreatest (IsDegreeBelow part (c.loop-place.place + 1))) (sym (maxed c.loop-place.greatest (length c.arcs.result.now) c.max-greatest.result c.max-greatest.ensures))
    (one_more part c.loop-place.place c.loop-place.greatest (length c.arcs.result.now) (ap length c.arcs.ensures.row) c.loop-place.invariant)

pub returns : goal.returns
returns c = all_below c.args.part.now c.loop-place.place c.loop-place.greatest (omega (arith, c.loop-place-test.false, c.loop-place.auto.place-end, c.count-place-end.ensures.value)) c.loop-place.invariant
