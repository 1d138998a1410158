use Rattle.std.proofs.Common.{ap, length}
use Rattle.pg_base.specs.Keyed.{row_of}
use Rattle.pg_bench.proofs.Sums.{row_more}
use Rattle.pg_bench.proofs.totals.arc_count.Goals as goal

pub loop-i-preserved : goal.loop-i-preserved
loop-i-preserved c =
    row_more (row_of c.args.part.now.bounds c.args.part.now.arcs) c.loop-i.i c.loop-i.count (length c.arcs.result.now) c.saturating_add-count.result
    c.loop-i.invariant (ap length c.arcs.ensures.row) c.saturating_add-count.ensures
