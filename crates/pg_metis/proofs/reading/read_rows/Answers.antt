use Rattle.std.proofs.Common.{◌≡◌, ◌+◌, arith, IfSome, Some}
use Rattle.std.proofs.lemmas.Result.{err_from_is_err_and}
use Rattle.pg_metis.specs.Fault.{body_fault}
use Rattle.pg_metis.specs.Headers.{header_in}
use Rattle.pg_metis.specs.Ahead.{content_ahead}
use Rattle.pg_metis.proofs.ReadingLemmas.{reads-more, rows-fault}
use Rattle.pg_metis.proofs.RefusalLemmas.{refused-passed}
use Rattle.pg_metis.proofs.reading.read_rows.Goals as goal

pub returns-in_err-read_row-clause-refused : goal.returns-in_err-read_row-clause-refused
returns-in_err-read_row-clause-refused g c =
    let p = err_from_is_err_and c.from_residual.result c.from_residual.ensures.1 in
    let header = header_in c.args.header in
    let place = c.loop-place.place in
    let read = c.loop-place.invariant.read in
    let a = content_ahead c.args.reader.now (g.I.Inputs.left c.args.inputs.now) in
    let b = content_ahead c.loop-place.reader (g.I.Inputs.left c.loop-place.inputs) in
    rw (p.1, p.2) (refused-passed c.in_err-read_row.field-0.0 (λ fault. IfSome b (λ was. body_fault header (place + 1) was ≡ Some fault)) (λ fault. IfSome a (λ was. body_fault header 1 was ≡ Some fault))
    (λ fault rest. rows-fault header place read.lines a b (Some fault) read.are.count read.are.faultless read.told rest) c.in_err-read_row.ensures.refused)

pub loop-place-preserved : goal.loop-place-preserved
loop-place-preserved g c =
    let inv = c.loop-place.invariant in
    record {
      later = omega (arith, inv.later, c.read_row.ensures.later);
      begun = cc (c.read_row.ensures.begun, inv.begun);
      files = cc (c.read_row.ensures.files, inv.files);
      read = reads-more (header_in c.args.header) c.loop-place.place _ _ _ _ _ c.loop-place-test.true inv.read c.in_ok-read_row.ensures.ok;
    }
