use Rattle.std.proofs.Common.{arith}
use Rattle.pg_agenda.specs.BucketPhases.{takes_by}
use Rattle.pg_label.specs.declared.labels.Weight.{Weight}
use Rattle.pg_top.specs.declared.columns.Field.TheVariants.{Amount}
use Rattle.pg_top.specs.Text.{AreLeastWeights}
use Rattle.pg_top.specs.Work.{IsCarried, IsRelaxedBy}
use Rattle.std.specs.Option.{option_map}
use Rattle.pg_top.proofs.Outcomes.{ok_then}
use Rattle.pg_top.proofs.RightLemmas.{weights_are_right}
use Rattle.pg_top.proofs.solving.least_weights.Goals as goal

pub returns-clause-carried : goal.returns-clause-carried
returns-clause-carried g c =
    let source : Weight = record { source = c.args.source } in
    let owners = option_map (λ owners. owners.items) c.args.input.owners in
    ok_then c.relax_input.result
    (λ r. IsRelaxedBy source (takes_by c.args.delta) Amount owners c.args.crew.now.ranks c.args.crew.now.capacity c.args.input.graph r.answers.of_vertices.items r.finished.programs.items r.finished.lanes.items)
    (λ r. IsCarried source (takes_by c.args.delta) Amount owners c.args.crew.now.ranks c.args.crew.now.capacity c.args.input.graph r.answers.of_vertices.items r.finished.programs.items r.finished.lanes.items) c.relax_input.ensures
    (λ r relaxed. (weights_are_right owners c.args.crew.now.ranks c.args.crew.now.capacity c.args.input.graph c.heaviest-most.ensures.graph r.answers.of_vertices.items r.finished.lanes.items source r.finished.programs.items relaxed
    c.heaviest-most.result (omega arith) c.heaviest-most.ensures.most).0)

pub returns-clause-least : goal.returns-clause-least
returns-clause-least g c =
    let source : Weight = record { source = c.args.source } in
    let owners = option_map (λ owners. owners.items) c.args.input.owners in
    ok_then c.relax_input.result
    (λ r. IsRelaxedBy source (takes_by c.args.delta) Amount owners c.args.crew.now.ranks c.args.crew.now.capacity c.args.input.graph r.answers.of_vertices.items r.finished.programs.items r.finished.lanes.items)
    (λ r. AreLeastWeights c.args.input.graph c.args.source r.answers.of_vertices.items) c.relax_input.ensures
    (λ r relaxed. (weights_are_right owners c.args.crew.now.ranks c.args.crew.now.capacity c.args.input.graph c.heaviest-most.ensures.graph r.answers.of_vertices.items r.finished.lanes.items source r.finished.programs.items relaxed
    c.heaviest-most.result (omega arith) c.heaviest-most.ensures.most).1)
