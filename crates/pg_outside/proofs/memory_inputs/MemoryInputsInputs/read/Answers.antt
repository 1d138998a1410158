use Rattle.std.proofs.Common.{◌≡◌, length, arith}
use Rattle.pg_outside.proofs.Pieces.{consumes_piece, end_by_none}
use Rattle.pg_outside.specs.NamedFiles.{named_files, bytes_at}
use Rattle.pg_outside.proofs.memory_inputs.MemoryInputsInputs.read.Goals as goal

pub returns-clause-bytes : goal.returns-clause-bytes
returns-clause-bytes c =
    let inputs = c.args.self.now in
    let place = c.in-Some.place in
    let files = named_files inputs.files.items in
    let bytes : c.bytes_at-bytes.result.now ≡ bytes_at files place.file = cc in
    let room = c.copy_piece-count.auto.buf in
    let front = c.copy_piece-count.ensures.front in
    let amount = c.copy_piece-count.ensures.amount in (
      consumes_piece files inputs.begun place c.copy_piece-count.result _ c.in-Some.is cc,
      end_by_none (bytes_at files place.file) place.offset inputs.piece (length c.copy_piece-count.new.buf) c.copy_piece-count.result (omega arith) cc,
    )
