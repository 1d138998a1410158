use Rattle.std.proofs.lemmas.Result.{err_from_is_err_and}
use Rattle.pg_metis.specs.Ahead.{content_ahead}
use Rattle.pg_metis.specs.Headers.{header_in}
use Rattle.pg_metis.proofs.FileLemmas.{body-passed, file-told, header-passed, text-told}
use Rattle.pg_metis.proofs.batch_files.read_file_in_batches.Goals as goal

pub returns-in_err-header-clause-refused : goal.returns-in_err-header-clause-refused
returns-in_err-header-clause-refused g c =
    let p = err_from_is_err_and c.from_residual-in_err-header.result c.from_residual-in_err-header.ensures.1 in
    let reader = c.in_ok-reader in
    let left = g.I.Inputs.left c.args.inputs.now in
    rw (p.1, p.2) (header-passed reader.reader left c.in_err-header.field-0.0 (record { coming = reader.ensures.coming left; none = reader.ensures.lines }) c.in_err-header.ensures.refused)

pub returns-in_err-rows-clause-refused : goal.returns-in_err-rows-clause-refused
returns-in_err-rows-clause-refused g c =
    let p = err_from_is_err_and c.from_residual-in_err-rows.result c.from_residual-in_err-rows.ensures.1 in
    let reader = c.in_ok-reader in
    let after = c.read_header.new in
    let left = g.I.Inputs.left c.args.inputs.now in
    let b = content_ahead after.reader (g.I.Inputs.left after.inputs) in
    rw (p.1, p.2) (body-passed reader.reader left (header_in c.in_ok-header.header) after.reader.lines b c.in_err-rows.field-0.0 (record { coming = reader.ensures.coming left; none = reader.ensures.lines }) c.in_ok-header.ensures.ok c.in_err-rows.ensures.refused)

pub returns-clause-ok : goal.returns-clause-ok
returns-clause-ok g c =
    let reader = c.in_ok-reader in
    let after = c.read_header.new in
    let left = g.I.Inputs.left c.args.inputs.now in
    let b = content_ahead after.reader (g.I.Inputs.left after.inputs) in
    let reads = c.in_ok-rows.ensures.ok in
    let number = c.line_number-header_line in
    record {
      lines = reads.lines;
      are = reads.are;
      told = file-told reader.reader left (header_in c.in_ok-header.header) number.result after.reader.lines b reads.lines (record { coming = reader.ensures.coming left; none = reader.ensures.lines }) number.ensures.number c.in_ok-header.ensures.ok reads.told;
    }

pub returns-clause-end : goal.returns-clause-end
returns-clause-end g c =
    let reader = c.in_ok-reader in
    let after = c.read_header.new in
    let left = g.I.Inputs.left c.args.inputs.now in
    let b = content_ahead after.reader (g.I.Inputs.left after.inputs) in
    text-told reader.reader left (header_in c.in_ok-header.header) after.reader.lines b _ (record { coming = reader.ensures.coming left; none = reader.ensures.lines }) c.in_ok-header.ensures.ok c.in_ok-rows.ensures.end
