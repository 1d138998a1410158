use Rattle.std.proofs.Common.{Err}
use Rattle.std.proofs.lemmas.Result.{err_from_is_err_and}
use Rattle.pg_metis.specs.Headers.{header_in}
use Rattle.pg_metis.specs.Reading.{AreRowsOf}
use Rattle.pg_metis.proofs.GraphLemmas.{made-file, malformed, refused-text, well_formed}
use Rattle.pg_metis.proofs.graph_files.read_graph.Goals as goal

pub returns-in_err-file-clause-well_formed : goal.returns-in_err-file-clause-well_formed
returns-in_err-file-clause-well_formed g c =
    let p = err_from_is_err_and c.from_residual.result c.from_residual.ensures.1 in
    rw (p.1, p.2) (well_formed (Err c.in_err-file.field-0.0) (g.I.Inputs.left c.args.inputs.now) c.in_err-file.ensures.refused)

pub returns-clause-ok : goal.returns-clause-ok
returns-clause-ok g c =
    let read = c.in_ok-file.ensures.ok in
    let file = c.in_ok-file.file in
    let header = header_in file.header in
    let left = g.I.Inputs.left c.args.inputs.now in
    made-file c.graph_of.result header file.header_line (AreRowsOf header header.n file.rows) read.lines left read.are read.told c.graph_of.ensures.ok

pub returns-clause-refused : goal.returns-clause-refused
returns-clause-refused g c =
    let read = c.in_ok-file.ensures.ok in
    let file = c.in_ok-file.file in
    let header = header_in file.header in
    let left = g.I.Inputs.left c.args.inputs.now in
    refused-text c.graph_of.result header file.header_line (AreRowsOf header header.n file.rows) read.lines left read.are read.told c.graph_of.ensures.refused

pub returns-clause-malformed : goal.returns-clause-malformed
returns-clause-malformed g c =
    let read = c.in_ok-file.ensures.ok in
    let file = c.in_ok-file.file in
    let header = header_in file.header in
    let left = g.I.Inputs.left c.args.inputs.now in
    malformed c.graph_of.result left (made-file c.graph_of.result header file.header_line (AreRowsOf header header.n file.rows) read.lines left read.are read.told c.graph_of.ensures.ok)
    (refused-text c.graph_of.result header file.header_line (AreRowsOf header header.n file.rows) read.lines left read.are read.told c.graph_of.ensures.refused)

pub returns-clause-well_formed : goal.returns-clause-well_formed
returns-clause-well_formed g c =
    let read = c.in_ok-file.ensures.ok in
    let file = c.in_ok-file.file in
    let header = header_in file.header in
    let left = g.I.Inputs.left c.args.inputs.now in
    well_formed c.graph_of.result left (refused-text c.graph_of.result header file.header_line (AreRowsOf header header.n file.rows) read.lines left read.are read.told c.graph_of.ensures.refused)
