use Rattle.std.proofs.Common.{◌+◌, ◌*◌, map, get_or, subst, arith, List}
use Rattle.std.proofs.lemmas.Result.{IfOk-weaker}
use Rattle.pg_metis.specs.declared.gathering.LineAt.{LineAt}
use Rattle.pg_metis.specs.Batches.{line_of}
use Rattle.pg_metis.specs.Headers.{header_in}
use Rattle.pg_metis.specs.Parsing.{IsParsed}
use Rattle.pg_metis.proofs.ParsedPieces.{pieces-found}
use Rattle.pg_metis.proofs.parsing.parse_pieces.Goals as goal

pub returns : goal.returns
returns g c =
    let header = header_in c.args.header in
    let bytes = c.args.bytes.now in
    let size = c.max-size.result in
    pieces-found header bytes size c.args.first c.args.lines.now c.map_chunks.result (omega (arith, c.max-size.ensures)) c.map_chunks.ensures.len
    (IfOk-weaker c.map_chunks.result _ _ (λ found gives k d below.
    let at = (gives k d below).1 in
    subst (λ (lines : List LineAt). IsParsed header (c.args.first + k * size) (map (line_of bytes) lines) (get_or found.items k d)) at.argument_is.value at.call) c.map_chunks.ensures.each)
