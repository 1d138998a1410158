use Rattle.std.proofs.Common.{arith, ◌≡◌, ◌<◌, ◌+◌, ◌-◌}
use Rattle.std.proofs.lemmas.Result.{err_from_is_err_and}
use Rattle.pg_text.proofs.ReaderLemmas.{too_long-passed, slice_range-length, overlong-all}
use Rattle.pg_text.proofs.readers.LineReader.take_part.Goals as goal

pub returns-in_err-take-in-None-clause-too_long : goal.returns-in_err-take-in-None-clause-too_long
returns-in_err-take-in-None-clause-too_long c =
    let p = err_from_is_err_and c.from_residual-in_err-take-in-None.result c.from_residual-in_err-take-in-None.ensures.1 in
    let reader = c.args.self.now in
    let size = slice_range-length reader.piece.items reader.start reader.end reader.ordered (omega (arith, reader.piece.ok.0)) in
    rw (p.1, p.2) (too_long-passed c.in_err-take-in-None.field-0.0 (λ line. (line ≡ reader.lines + 1) × (reader.room < reader.end - reader.start)) _ (λ line h. (h.0, overlong-all reader.room _ _ c.in-None.ensures size h.1)) c.in_err-take-in-None.ensures.too_long)
