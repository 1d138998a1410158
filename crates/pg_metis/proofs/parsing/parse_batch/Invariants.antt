use Rattle.std.specs.Vec.Iter.{into_iter_items}
use Rattle.pg_metis.specs.Batches.{lines_in}
use Rattle.pg_metis.specs.Headers.{header_in}
use Rattle.pg_metis.proofs.AddedPieces.{HasAdded}
use Rattle.pg_metis.proofs.parsing.parse_batch.Given as goal

abbrev pub invariant-loop-piece : goal.invariant-loop-piece
invariant-loop-piece g l = HasAdded (header_in l.fn.header) l.fn.first (lines_in l.fn.batch) l.fn.pieces l.pieces (into_iter_items l.piece-iterator)
