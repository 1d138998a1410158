use Rattle.std.proofs.Common.{◌≡◌, ◌+◌, arith, IfSome, Some, length}
use Rattle.std.proofs.lemmas.Result.{err_from_is_err_and}
use Rattle.pg_metis.specs.Fault.{body_fault}
use Rattle.pg_metis.specs.Headers.{header_in}
use Rattle.pg_metis.specs.Ahead.{content_ahead}
use Rattle.pg_metis.proofs.BatchLemmas.{known-more, reads-more, rows-fault}
use Rattle.pg_metis.proofs.RefusalLemmas.{refused-passed}
use Rattle.pg_metis.proofs.batches.read_rows_in_batches.Goals as goal

pub returns-in_err-read_batch-clause-refused : goal.returns-in_err-read_batch-clause-refused
returns-in_err-read_batch-clause-refused g c =
    let p = err_from_is_err_and c.from_residual.result c.from_residual.ensures.1 in
    let header = header_in c.args.header in
    let known = length c.loop-alloc.rows.numbers.items in
    let a = content_ahead c.args.reader.now (g.I.Inputs.left c.args.inputs.now) in
    let b = content_ahead c.loop-alloc.reader (g.I.Inputs.left c.loop-alloc.inputs) in
    rw (p.1, p.2) (refused-passed c.in_err-read_batch.field-0.0 (λ fault. IfSome b (λ was. body_fault header (known + 1) was ≡ Some fault)) (λ fault. IfSome a (λ was. body_fault header 1 was ≡ Some fault))
    (λ fault rest. rows-fault header known _ a b (Some fault) c.loop-alloc.invariant.read rest) c.in_err-read_batch.ensures.refused)

pub loop-alloc-preserved : goal.loop-alloc-preserved
loop-alloc-preserved g c =
    let inv = c.loop-alloc.invariant in
    let header = header_in c.args.header in
    let takes = c.in_ok-read_batch.ensures.ok in
    let more = known-more header _ _ _ _ takes in
    record {
      later = omega (arith, inv.later, c.read_batch.ensures.later);
      begun = cc (c.read_batch.ensures.begun, inv.begun);
      files = cc (c.read_batch.ensures.files, inv.files);
      few = more.1;
      read = reads-more header _ _ _ _ _ inv.read takes;
    }
