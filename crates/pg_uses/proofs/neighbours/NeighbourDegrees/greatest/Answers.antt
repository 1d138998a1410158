use Rattle.std.proofs.Common.{◌+◌, get_or, sym, subst, take, arith}
use Rattle.std.proofs.lemmas.Option.{slice_get-get_or}
use Rattle.pg_adj.specs.Portions.{IsPortion}
use Rattle.pg_cells.specs.Shown.{state_of}
use Rattle.pg_uses.specs.Greatest.{IsGreatest}
use Rattle.pg_uses.proofs.Greatests.{maxed}
use Rattle.pg_uses.proofs.Looking.{IsValueAmong, all_values, beside_known, no_arc, one_more_value, unwrapped}
use Rattle.pg_uses.proofs.neighbours.NeighbourDegrees.greatest.Goals as goal

pub get-requires-after_bounds : goal.get-requires-after_bounds
get-requires-after_bounds c κs =
    let p = c.args.self.now in
    beside_known p.part p.cells.part.value c.args.place c.loop-arc.arc-index _ c.arcs-arcs.result.now p.same_part c.arcs-arcs.ensures.row c.loop-arc-test.true c.requires.neighbours

pub returns : goal.returns
returns c =
    let p = c.args.self.now in
    all_values p.part (state_of p.cells) c.args.place c.loop-arc.arc-index c.loop-arc.greatest c.arcs-arcs.result.now c.arcs-arcs.ensures.row (omega (arith, c.loop-arc-test.false)) c.loop-arc.invariant

pub loop-arc-preserved : goal.loop-arc-preserved
loop-arc-preserved c =
    let p = c.args.self.now in
    let arcs = c.arcs-arcs.result.now in
    let k = c.loop-arc.arc-index in
    let x = c.unwrap_or.result in
    subst (IsGreatest (IsValueAmong (take (k + 1) arcs) (state_of p.cells))) (sym (maxed c.loop-arc.greatest x c.max-greatest.result c.max-greatest.ensures))
    (one_more_value (state_of p.cells) (subst IsPortion (sym p.same_part) c.n-n.ensures.portion) arcs k (get_or arcs k no_arc) c.loop-arc.greatest x c.get.result
    (slice_get-get_or arcs k no_arc c.loop-arc-test.true) c.get.ensures (unwrapped c.get.result x c.unwrap_or.ensures) c.loop-arc.invariant)
