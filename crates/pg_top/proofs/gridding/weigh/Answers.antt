use Rattle.std.proofs.Common.{◌≡◌, None, refl}
use Rattle.std.specs.Option.{option_map}
use Rattle.pg_agenda.specs.BucketPhases.{takes_by}
use Rattle.pg_label.specs.declared.labels.Weight.{Weight}
use Rattle.pg_top.specs.declared.columns.Field.TheVariants.{Amount}
use Rattle.pg_top.specs.Work.{IsCarried}
use Rattle.pg_top.proofs.GridWork.{carried_for}
use Rattle.pg_top.proofs.Outcomes.{ok_then}
use Rattle.pg_top.proofs.gridding.weigh.Goals as goal

pub returns-clause-carried : goal.returns-clause-carried
returns-clause-carried g c =
    let weight : Weight = record { source = 1 } in
    let input = c.in_ok-input.input in
    let none : option_map (λ owners. owners.items) input.owners ≡ None = rw c.in_ok-input.ensures.owners refl in
    ok_then c.least_weights.result
    (λ r. IsCarried weight (takes_by c.args.delta) Amount (option_map (λ owners. owners.items) input.owners) c.args.crew.now.ranks c.args.crew.now.capacity input.graph r.answers.of_vertices.items r.finished.programs.items r.finished.lanes.items)
    (λ r. IsCarried weight (takes_by c.args.delta) Amount None c.args.crew.now.ranks c.args.crew.now.capacity c.args.graph.now r.answers.of_vertices.items r.finished.programs.items r.finished.lanes.items) c.least_weights.ensures.carried
    (λ r h. carried_for weight (takes_by c.args.delta) (option_map (λ owners. owners.items) input.owners) None c.args.crew.now.ranks c.args.crew.now.capacity input.graph c.args.graph.now r.answers.of_vertices.items r.finished.programs.items r.finished.lanes.items
    none c.in_ok-input.ensures.graph h)
