use Rattle.std.proofs.Common.{◌≡◌, IfSome, Some}
use Rattle.std.proofs.lemmas.Result.{err_from_is_err_and}
use Rattle.pg_metis.specs.Fault.{body_fault}
use Rattle.pg_metis.specs.Headers.{header_in}
use Rattle.pg_metis.specs.Ahead.{content_ahead}
use Rattle.pg_metis.specs.Reading.{blank_fault}
use Rattle.pg_metis.proofs.ReadingLemmas.{blank-fault, body-told}
use Rattle.pg_metis.proofs.RefusalLemmas.{refused-passed}
use Rattle.pg_metis.proofs.batch_files.read_body_in_batches.Goals as goal

pub returns-in_err-read_end-clause-refused : goal.returns-in_err-read_end-clause-refused
returns-in_err-read_end-clause-refused g c =
    let p = err_from_is_err_and c.from_residual-in_err-read_end.result c.from_residual-in_err-read_end.ensures.1 in
    let header = header_in c.args.header in
    let read = c.in_ok-read_rows_in_batches.ensures.ok in
    let a = content_ahead c.args.reader.now (g.I.Inputs.left c.args.inputs.now) in
    let b = content_ahead c.read_rows_in_batches.new.reader (g.I.Inputs.left c.read_rows_in_batches.new.inputs) in
    rw (p.1, p.2) (refused-passed c.in_err-read_end.field-0.0 (λ fault. IfSome b (λ was. blank_fault was ≡ Some fault)) (λ fault. IfSome a (λ was. body_fault header 1 was ≡ Some fault))
    (λ fault rest. blank-fault header read.lines a b (Some fault) read.are.count read.are.faultless read.told rest) c.in_err-read_end.ensures.refused)

pub returns-clause-ok : goal.returns-clause-ok
returns-clause-ok g c =
    let a = content_ahead c.args.reader.now (g.I.Inputs.left c.args.inputs.now) in
    let b = content_ahead c.read_rows_in_batches.new.reader (g.I.Inputs.left c.read_rows_in_batches.new.inputs) in
    let read = c.in_ok-read_rows_in_batches.ensures.ok in
    record {
      lines = read.lines;
      are = read.are;
      told = body-told (header_in c.args.header) read.lines a b read.are.count read.are.faultless read.told c.in_ok-read_end.ensures.ok;
    }
