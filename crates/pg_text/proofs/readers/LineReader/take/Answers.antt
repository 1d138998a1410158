use Rattle.std.proofs.Common.{arith}
use Rattle.pg_text.proofs.ReaderLemmas.{slice_range-drop, slice_range-length}
use Rattle.pg_text.proofs.readers.LineReader.take.Goals as goal

pub returns-clause-rest : goal.returns-clause-rest
returns-clause-rest c =
    let reader = c.args.self.now in
    slice_range-drop reader.piece.items reader.start reader.end c.args.count (omega (arith, slice_range-length reader.piece.items reader.start reader.end reader.ordered (omega (arith, reader.piece.ok.0))))
