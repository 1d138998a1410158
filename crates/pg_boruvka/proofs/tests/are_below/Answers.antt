use Rattle.pg_boruvka.proofs.OrderlyArcs.{below_more}
use Rattle.pg_boruvka.proofs.tests.are_below.Goals as goal

pub loop-place-preserved : goal.loop-place-preserved
loop-place-preserved c = below_more c.args.part.now c.loop-place.place c.args.edges c.loop-place.invariant (c.row_is_below.ensures c.if-not-row_is_below.false)
