use Rattle.std.proofs.Common.{◌≡◌, ◌∙◌, ◌+◌, arith, IfSome, Some, length}
use Rattle.std.proofs.lemmas.Result.{err_from_is_err_and}
use Rattle.pg_text.specs.Coming.{lines_taken}
use Rattle.pg_metis.specs.Fault.{body_fault, lines_fault}
use Rattle.pg_metis.specs.Headers.{header_in}
use Rattle.pg_metis.specs.Ahead.{content_ahead}
use Rattle.pg_metis.specs.Batches.{Begins, lines_in}
use Rattle.pg_metis.proofs.BatchLemmas.{body-bad, fewer-lines, stop-refused}
use Rattle.pg_metis.proofs.RefusalLemmas.{refused-passed}
use Rattle.pg_metis.proofs.ToldLemmas.{if_some-weaker}
use Rattle.pg_metis.proofs.batches.read_batch.Goals as goal

pub returns-in_err-take_lines-clause-refused : goal.returns-in_err-take_lines-clause-refused
returns-in_err-take_lines-clause-refused g c =
    let p = err_from_is_err_and c.from_residual-in_err-take_lines.result c.from_residual-in_err-take_lines.ensures.1 in
    let header = header_in c.args.header in
    let v = length c.args.rows.now.numbers.items + 1 in
    let lines = lines_in c.gather.new.batch in
    let a = content_ahead c.args.reader.now (g.I.Inputs.left c.args.inputs.now) in
    rw (p.1, p.2) (refused-passed c.in_err-take_lines.field-0.0 (λ fault. lines_fault header v lines ≡ Some fault) (λ fault. IfSome a (λ was. body_fault header v was ≡ Some fault))
    (λ fault bad. if_some-weaker a (Begins lines) _ c.in_ok-stop.ensures.first (λ was begins. body-bad header v lines was fault begins bad)) c.in_err-take_lines.ensures.refused)

pub returns-clause-refused : goal.returns-clause-refused
returns-clause-refused g c =
    let rows = c.args.rows.now in
    let batch = c.gather.new.batch in
    let known : c.len.result ≡ length rows.numbers.items = c.len.ensures ∙ rows.numbers.ok.0 in
    let a = content_ahead c.args.reader.now (g.I.Inputs.left c.args.inputs.now) in
    rw (c.stopped.ensures, c.line_number.ensures.number) (stop-refused (header_in c.args.header) (length rows.numbers.items + 1) (lines_taken c.gather.new.reader) c.in_ok-stop.stop (lines_in batch) a _
    (λ end. fewer-lines batch.bytes.items batch.lines.items (length rows.numbers.items) c.args.header.n _ c.requires.wanted (omega (arith, known)) (c.in_ok-stop.ensures.missing end))
    c.in_ok-take_lines.ensures.ok.faultless c.in_ok-stop.ensures.stop)
