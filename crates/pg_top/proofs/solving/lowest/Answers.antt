use Rattle.pg_agenda.specs.Shares.{takes_all}
use Rattle.pg_label.specs.declared.labels.Root.{Root}
use Rattle.pg_top.specs.declared.columns.Field.TheVariants.{Class}
use Rattle.pg_top.specs.Text.{AreLowest}
use Rattle.pg_top.specs.Work.{IsCarried, IsRelaxedBy}
use Rattle.std.specs.Option.{option_map}
use Rattle.pg_top.proofs.Outcomes.{ok_then}
use Rattle.pg_top.proofs.RightLemmas.{roots_are_right}
use Rattle.pg_top.proofs.solving.lowest.Goals as goal

pub returns-clause-carried : goal.returns-clause-carried
returns-clause-carried g c =
    let root : Root = record {} in
    let owners = option_map (λ owners. owners.items) c.args.input.owners in
    ok_then c.relax_input.result
    (λ r. IsRelaxedBy root takes_all Class owners c.args.crew.now.ranks c.args.crew.now.capacity c.args.input.graph r.answers.of_vertices.items r.finished.programs.items r.finished.lanes.items)
    (λ r. IsCarried root takes_all Class owners c.args.crew.now.ranks c.args.crew.now.capacity c.args.input.graph r.answers.of_vertices.items r.finished.programs.items r.finished.lanes.items) c.relax_input.ensures
    (λ r relaxed. (roots_are_right owners c.args.crew.now.ranks c.args.crew.now.capacity c.args.input.graph c.n-n.ensures.graph r.answers.of_vertices.items r.finished.lanes.items root r.finished.programs.items relaxed).0)

pub returns-clause-lowest : goal.returns-clause-lowest
returns-clause-lowest g c =
    let root : Root = record {} in
    let owners = option_map (λ owners. owners.items) c.args.input.owners in
    ok_then c.relax_input.result
    (λ r. IsRelaxedBy root takes_all Class owners c.args.crew.now.ranks c.args.crew.now.capacity c.args.input.graph r.answers.of_vertices.items r.finished.programs.items r.finished.lanes.items)
    (λ r. AreLowest c.args.input.graph r.answers.of_vertices.items) c.relax_input.ensures
    (λ r relaxed. (roots_are_right owners c.args.crew.now.ranks c.args.crew.now.capacity c.args.input.graph c.n-n.ensures.graph r.answers.of_vertices.items r.finished.lanes.items root r.finished.programs.items relaxed).1)
