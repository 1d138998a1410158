use Rattle.std.proofs.Common.{◌≡◌, ◌∙◌, sym, subst, List, None}
use Rattle.std.proofs.lemmas.Result.{err_from_is_err_and, on_ok_weaker, IfErr-weaker}
use Rattle.pg_base.specs.Graph.{Arc}
use Rattle.pg_text.specs.Text.{words}
use Rattle.pg_metis.specs.Arcs.{Adds}
use Rattle.pg_metis.specs.Fault.{row_fault, vertex_fault}
use Rattle.pg_metis.specs.File.{leading}
use Rattle.pg_metis.specs.Headers.{header_in}
use Rattle.pg_metis.specs.Rows.{arcs_by}
use Rattle.pg_metis.proofs.RowLemmas.{ok-both, row-arcs, skips-at, vertex-left}
use Rattle.pg_metis.proofs.rows.take_any_row.Goals as goal

pub returns-in_err-skip_numbers-clause-refused : goal.returns-in_err-skip_numbers-clause-refused
unfolding vertex_fault
returns-in_err-skip_numbers-clause-refused c =
    let p = err_from_is_err_and c.from_residual.result c.from_residual.ensures.1 in
    rw (p.1, p.2, sym c.words-left.ensures, sym c.leading.ensures) (c.in_err-skip_numbers.ensures.refused (header_in c.args.header) c.args.vertex)

pub returns-clause-faultless : goal.returns-clause-faultless
returns-clause-faultless c =
    let header = header_in c.args.header in
    let skips = skips-at _ (leading header.format) _ (words c.args.line.now) _ c.in_ok-skip_numbers.ensures.ok c.leading.ensures c.words-left.ensures in
    on_ok_weaker c.take_neighbours.result (λ fine. vertex-left header c.args.vertex _ _ skips ∙ fine) c.take_neighbours.ensures.faultless

pub returns-clause-arcs : goal.returns-clause-arcs
returns-clause-arcs c =
    let header = header_in c.args.header in
    let left = words c.skip_numbers.new.left.rest.now in
    let skips = skips-at _ (leading header.format) _ (words c.args.line.now) left c.in_ok-skip_numbers.ensures.ok c.leading.ensures c.words-left.ensures in
    ok-both c.take_neighbours.result (row_fault header c.args.vertex 0 left ≡ None) (Adds c.args.arcs.now (arcs_by header.format.edge_weights c.args.vertex left) c.take_neighbours.new.arcs) _
    (λ fine adds. subst (λ (l : List Arc). Adds c.args.arcs.now l c.take_neighbours.new.arcs) (sym (row-arcs header c.args.vertex c.args.line.now left skips fine)) adds)
    c.take_neighbours.ensures.faultless c.take_neighbours.ensures.arcs

pub returns-clause-refused : goal.returns-clause-refused
returns-clause-refused c =
    let header = header_in c.args.header in
    let skips = skips-at _ (leading header.format) _ (words c.args.line.now) _ c.in_ok-skip_numbers.ensures.ok c.leading.ensures c.words-left.ensures in
    IfErr-weaker c.take_neighbours.result _ _ (λ kind bad. vertex-left header c.args.vertex _ _ skips ∙ bad) c.take_neighbours.ensures.refused
