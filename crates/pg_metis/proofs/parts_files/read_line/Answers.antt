use Rattle.std.proofs.Common.{true, IfSome}
use Rattle.std.proofs.lemmas.Result.{err_from_is_err_and}
use Rattle.pg_metis.specs.Ahead.{content_ahead, IsPastLimit}
use Rattle.pg_metis.proofs.PartsReadingLemmas.{part-refused, past-parts}
use Rattle.pg_metis.proofs.PartsRefusals.{long-line-passed}
use Rattle.pg_metis.proofs.ReadingLemmas.{takes-at}
use Rattle.pg_metis.proofs.ToldLemmas.{if_some-weaker, told-then}
use Rattle.pg_metis.proofs.parts_files.read_line.Goals as goal

pub returns-in_err-more-clause-refused : goal.returns-in_err-more-clause-refused
returns-in_err-more-clause-refused g c =
    let p = err_from_is_err_and c.from_residual.result c.from_residual.ensures.1 in
    let start = content_ahead c.args.reader.now (g.I.Inputs.left c.args.inputs.now) in
    rw (p.1, p.2) (long-line-passed c.in_err-more.field-0.0 (λ line. IfSome start (IsPastLimit line)) _
    (λ line past. if_some-weaker start (IsPastLimit line) _ past (λ was over wanted some. past-parts line was over wanted c.args.ranks)) c.in_err-more.ensures.too_long)

pub returns-in_err-part-clause-refused : goal.returns-in_err-part-clause-refused
returns-in_err-part-clause-refused g c =
    let p = err_from_is_err_and c.from_residual-in_err-part.result c.from_residual-in_err-part.ensures.1 in
    let new = c.next_content.new.reader in
    rw (p.1, p.2) (told-then _ _ _ _ c.in_ok-more.ensures.ok
    (λ was now takes. part-refused c.args.ranks c.in_ok-more.more new.lines new.line.items was now c.in_err-part.field-0.0 takes c.in_err-part.ensures.refused))

pub returns-clause-ok : goal.returns-clause-ok
returns-clause-ok g c =
    let new = c.next_content.new.reader in
    record {
      line = record { number = new.lines; bytes = new.line.items };
      told = takes-at c.in_ok-more.more true new.lines new.line.items _ _ c.in_ok-part.ensures.some c.in_ok-more.ensures.ok;
      gives = c.in_ok-part.ensures.gives;
    }
