use Rattle.std.specs.Prelude.{slice_index}
use Rattle.pg_boruvka.proofs.LabelMoves.{AreMovedTo}
use Rattle.pg_boruvka.proofs.pointers.move_labels.Given as goal

abbrev pub invariant-loop-label : goal.invariant-loop-label
invariant-loop-label l = AreMovedTo (slice_index l.fn.pointers) l.fn.labels l.labels l.label-index
