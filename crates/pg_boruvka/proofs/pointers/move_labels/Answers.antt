use Rattle.std.specs.Prelude.{slice_index}
use Rattle.pg_boruvka.proofs.LabelMoves.{moved_more, moved_all, moved_within}
use Rattle.pg_boruvka.proofs.pointers.move_labels.Goals as goal

pub loop-label-preserved : goal.loop-label-preserved
loop-label-preserved c = moved_more (slice_index c.args.pointers.now) c.args.labels.now c.loop-label.labels c.loop-label.label-index c.loop-label-test.true c.loop-label.invariant

pub returns-clause-within : goal.returns-clause-within
returns-clause-within c =
    let moved = moved_all (slice_index c.args.pointers.now) c.args.labels.now c.loop-label.labels c.loop-label.label-index c.loop-label-test.false c.loop-label.invariant in
    λ count below. moved_within c.args.pointers.now c.args.labels.now c.loop-label.labels count c.requires moved below
