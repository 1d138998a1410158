use Rattle.std.proofs.Common.{◌∙◌, sym, subst, List}
use Rattle.pg_base.specs.Graph.{Arc}
use Rattle.pg_text.specs.Text.{words}
use Rattle.pg_metis.specs.Arcs.{Adds}
use Rattle.pg_metis.specs.File.{leading}
use Rattle.pg_metis.specs.Headers.{header_in}
use Rattle.pg_metis.proofs.RowLemmas.{row-arcs, skips-at, vertex-left}
use Rattle.pg_metis.proofs.rows.take_ascending_row.Goals as goal

pub returns-clause-faultless : goal.returns-clause-faultless
returns-clause-faultless c = λ all.
    let header = header_in c.args.header in
    let skips = skips-at _ (leading header.format) _ (words c.args.line.now) _ c.in-Ok.ensures.ok c.leading.ensures c.words-left.ensures in
    vertex-left header c.args.vertex _ _ skips ∙ c.take_ascending.ensures.faultless all

pub returns-clause-arcs : goal.returns-clause-arcs
returns-clause-arcs c = λ all.
    let header = header_in c.args.header in
    let left = words c.skip_numbers.new.left.rest.now in
    let skips = skips-at _ (leading header.format) _ (words c.args.line.now) left c.in-Ok.ensures.ok c.leading.ensures c.words-left.ensures in
    subst (λ (l : List Arc). Adds c.args.arcs.now l c.take_ascending.new.arcs) (sym (row-arcs header c.args.vertex c.args.line.now left skips (c.take_ascending.ensures.faultless all))) (c.take_ascending.ensures.arcs all)
