use Rattle.pg_boruvka.proofs.ArcTables.{placed_more}
use Rattle.pg_boruvka.proofs.arcs.arcs_of.Goals as goal

pub loop-place-preserved : goal.loop-place-preserved
loop-place-preserved c =
    placed_more c.args.part.now c.loop-place.arcs.items c.push_arcs.new.arcs.items c.loop-place.place c.loop-place.invariant
    c.in_ok-push_arcs.ensures.locals c.in_ok-push_arcs.ensures.ends c.in_ok-push_arcs.ensures.small
