use Rattle.std.proofs.Common.{arith}
use Rattle.pg_cells.proofs.RefreshLists.{refreshes_more, foreign_more, places_more}
use Rattle.pg_cells.proofs.refreshes.Refreshes.of_part.Goals as goal

pub loop-place-preserved : goal.loop-place-preserved
loop-place-preserved c =
    let part = c.args.part.now in
    let inv = c.loop-place.invariant in
    record {
      entries = refreshes_more part _ _ _ _ c.in_ok-push_refreshes.ensures inv.entries c.holders.ensures.row;
      foreign = foreign_more part _ _ _ _ c.in_ok-push_refreshes.ensures inv.foreign c.holders.ensures.foreign;
      places = places_more part _ _ _ _ c.in_ok-push_refreshes.ensures inv.places (omega arith);
    }
