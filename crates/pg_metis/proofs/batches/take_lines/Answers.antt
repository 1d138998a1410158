use Rattle.std.proofs.Common.{◌≡◌, ◌∙◌, arith, length}
use Rattle.pg_metis.specs.Headers.{header_in}
use Rattle.pg_metis.proofs.BatchLemmas.{takes-lines}
use Rattle.pg_metis.proofs.batches.take_lines.Goals as goal

pub returns-clause-ok : goal.returns-clause-ok
returns-clause-ok g c =
    let old = c.args.rows.now in
    let batch = c.args.batch.now in
    let known : c.len.result ≡ length old.numbers.items = c.len.ensures ∙ old.numbers.ok.0 in
    let few = c.args.header.few_vertices in
    takes-lines (header_in c.args.header) old _ batch.bytes.items batch.lines.items _ _ (omega (arith, known, few, c.requires.few))
    c.in_ok-parse_batch.ensures.faultless c.in_ok-parse_batch.ensures.arcs c.in_ok-keep_numbers.ensures c.deref.ensures.value
