use Rattle.std.proofs.Common.{IfSome}
use Rattle.std.proofs.lemmas.Result.{err_from_is_err_and}
use Rattle.pg_metis.specs.Ahead.{content_ahead, IsPastLimit}
use Rattle.pg_metis.proofs.ReadingLemmas.{past-header, header-refused}
use Rattle.pg_metis.proofs.RefusalLemmas.{too_long-passed}
use Rattle.pg_metis.proofs.ToldLemmas.{if_some-weaker, told-then}
use Rattle.pg_metis.proofs.reading.read_header.Goals as goal

pub returns-in_err-more-clause-refused : goal.returns-in_err-more-clause-refused
returns-in_err-more-clause-refused g c =
    let p = err_from_is_err_and c.from_residual.result c.from_residual.ensures.1 in
    let start = content_ahead c.args.reader.now (g.I.Inputs.left c.args.inputs.now) in
    rw (p.1, p.2) (too_long-passed c.in_err-more.field-0.0 (λ line. IfSome start (IsPastLimit line)) _ (λ line past. if_some-weaker start (IsPastLimit line) _ past (past-header line)) c.in_err-more.ensures.too_long)

pub returns-in_err-header-clause-refused : goal.returns-in_err-header-clause-refused
returns-in_err-header-clause-refused g c =
    let p = err_from_is_err_and c.from_residual-in_err-header.result c.from_residual-in_err-header.ensures.1 in
    let new = c.next_content.new.reader in
    rw (p.1, p.2) (told-then _ _ _ _ c.in_ok-more.ensures.ok
    (λ was now takes. header-refused c.in_ok-more.more new.lines new.line.items was now c.in_err-header.field-0.0 takes c.in_err-header.ensures.refused))
