use Rattle.std.proofs.Common.{◌∙◌, ◌∷◌, ap, subst}
use Rattle.std.specs.Vec.Iter.{into_iter_items}
use Rattle.pg_metis.specs.Batches.{lines_in}
use Rattle.pg_metis.specs.Headers.{header_in}
use Rattle.pg_metis.proofs.AddedPieces.{HasAdded, one-added, piece-refused}
use Rattle.pg_metis.proofs.parsing.parse_batch.Goals as goal

pub returns-in_err-piece-clause-refused : goal.returns-in_err-piece-clause-refused
returns-in_err-piece-clause-refused g c =
    let header = header_in c.args.header in
    let lines = lines_in c.args.batch.now in
    let left = into_iter_items c.next.new.self in
    let next = c.in-Some.ensures.steps.0 ∙ ap (λ piece. piece ∷ left) c.in_err-piece.was in
    piece-refused c.from_residual-in_err-piece.result header c.args.first lines c.args.pieces.now c.loop-piece.pieces c.in_err-piece.field-0.0 left c.from_residual-in_err-piece.ensures.1
    (subst (HasAdded header c.args.first lines c.args.pieces.now c.loop-piece.pieces) next c.loop-piece.invariant)

pub loop-piece-preserved : goal.loop-piece-preserved
loop-piece-preserved g c =
    let header = header_in c.args.header in
    let lines = lines_in c.args.batch.now in
    let left = into_iter_items c.next.new.self in
    let next = c.in-Some.ensures.steps.0 ∙ ap (λ piece. piece ∷ left) c.in_ok-piece.was in
    one-added header c.args.first lines c.args.pieces.now c.loop-piece.pieces c.add.new.self c.in_ok-piece.field-0 left
    (subst (HasAdded header c.args.first lines c.args.pieces.now c.loop-piece.pieces) next c.loop-piece.invariant) c.in_ok-add.ensures.adds
