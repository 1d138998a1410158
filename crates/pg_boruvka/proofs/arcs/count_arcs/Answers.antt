use Rattle.std.proofs.Common.{◌∙◌}
use Rattle.pg_boruvka.proofs.ArcTables.{counts_more}
use Rattle.pg_boruvka.proofs.arcs.count_arcs.Goals as goal

pub loop-place-preserved : goal.loop-place-preserved
loop-place-preserved c =
    c.saturating_add-count.ensures
    ∙ counts_more c.args.part.now c.loop-place.place c.loop-place.count c.arcs.result.now c.loop-place.invariant c.arcs.ensures.row
