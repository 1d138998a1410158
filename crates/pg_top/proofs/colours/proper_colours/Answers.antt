use Rattle.std.specs.Option.{option_map}
use Rattle.pg_print.specs.Columns.{column_text}
use Rattle.pg_top.specs.Text.{IsColourText}
use Rattle.pg_top.specs.Work.{HasColours, IsColouredBy, SpellsColours}
use Rattle.pg_top.proofs.Outcomes.{ok_then}
use Rattle.pg_top.proofs.ColourLemmas.{colours_are_had, colours_are_right, colours_are_spelled}
use Rattle.pg_top.proofs.colours.proper_colours.Goals as goal

pub returns-clause-right : goal.returns-clause-right
returns-clause-right g c =
    let owners = option_map (λ owners. owners.items) c.args.input.owners in
    ok_then c.colour_input.result
    (λ r. IsColouredBy owners c.args.crew.now.ranks c.args.crew.now.capacity c.args.input.graph r.colours.of_vertices.items r.finished.programs.items r.finished.lanes.items)
    (λ r. IsColourText c.args.crew.now.ranks c.args.input.graph (column_text r.colours.of_vertices.items)) c.colour_input.ensures
    (λ r coloured. colours_are_right owners c.args.crew.now.ranks c.args.crew.now.capacity c.args.input.graph r.colours.of_vertices.items r.finished.programs.items r.finished.lanes.items coloured c.n-n.ensures.graph)

pub returns-clause-spells : goal.returns-clause-spells
returns-clause-spells g c =
    let owners = option_map (λ owners. owners.items) c.args.input.owners in
    ok_then c.colour_input.result
    (λ r. IsColouredBy owners c.args.crew.now.ranks c.args.crew.now.capacity c.args.input.graph r.colours.of_vertices.items r.finished.programs.items r.finished.lanes.items)
    (λ r. SpellsColours owners c.args.crew.now.ranks c.args.crew.now.capacity c.args.input.graph (column_text r.colours.of_vertices.items) r.finished.programs.items r.finished.lanes.items) c.colour_input.ensures
    (λ r coloured. colours_are_spelled owners c.args.crew.now.ranks c.args.crew.now.capacity c.args.input.graph r.colours.of_vertices.items r.finished.programs.items r.finished.lanes.items coloured c.n-n.ensures.graph)

pub returns-clause-has : goal.returns-clause-has
returns-clause-has g c =
    let owners = option_map (λ owners. owners.items) c.args.input.owners in
    ok_then c.colour_input.result
    (λ r. IsColouredBy owners c.args.crew.now.ranks c.args.crew.now.capacity c.args.input.graph r.colours.of_vertices.items r.finished.programs.items r.finished.lanes.items)
    (λ r. HasColours owners c.args.crew.now.ranks c.args.crew.now.capacity c.args.input.graph r.colours.of_vertices.items r.finished.programs.items r.finished.lanes.items) c.colour_input.ensures
    (λ r coloured. colours_are_had owners c.args.crew.now.ranks c.args.crew.now.capacity c.args.input.graph r.colours.of_vertices.items r.finished.programs.items r.finished.lanes.items coloured c.n-n.ensures.graph)
