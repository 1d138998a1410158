use Rattle.pg_label.specs.declared.labels.Weight.{Weight}
use Rattle.pg_top.specs.declared.columns.Field.TheVariants.{Amount}
use Rattle.std.specs.Option.{option_map}
use Rattle.pg_top.proofs.RightLemmas.{spelled_for}
use Rattle.pg_words.specs.Plan.{meaning_of}
use Rattle.pg_top.specs.Answered.{text_in}
use Rattle.pg_top.specs.Work.{IsSummarized, IsWork}
use Rattle.pg_top.proofs.GridWork.{summarized_for}
use Rattle.pg_top.proofs.Outcomes.{ok_then}
use Rattle.pg_top.proofs.solving.solve.Goals as goal

pub returns-in_ok-relaxed-in-Sssp-clause-work : goal.returns-in_ok-relaxed-in-Sssp-clause-work
returns-in_ok-relaxed-in-Sssp-clause-work g c =
    let source : Weight = record { source = c.args.plan.now.source } in
    let r = c.in_ok-relaxed-in-Sssp in (
      c.in-Sssp.is,
      spelled_for source Amount (option_map (λ owners. owners.items) c.args.input.owners) c.args.crew.now.ranks c.args.plan.now.ranks c.args.crew.now.capacity c.args.plan.now.capacity c.args.input.graph
          r.relaxed.answers.of_vertices.items r.relaxed.finished.programs.items r.relaxed.finished.lanes.items c.requires.ranks c.requires.capacity r.ensures.carried,
    )

pub returns-in-Grid-clause-work : goal.returns-in-Grid-clause-work
returns-in-Grid-clause-work g c =
    let plan = meaning_of c.args.plan.now in
    let owners = option_map (λ owners. owners.items) c.args.input.owners in
    ok_then c.summarize.result
    (λ s. IsSummarized c.args.plan.now.delta c.args.crew.now.ranks c.args.crew.now.capacity c.args.input.graph (text_in s.answers) s.work)
    (λ s. IsWork plan c.args.input.graph owners (text_in s.answers) s.work) c.summarize.ensures.work
    (λ s h. summarized_for plan c.args.input.graph owners (text_in s.answers) s.work c.args.crew.now.ranks c.args.crew.now.capacity c.in-Grid.is c.requires.ranks c.requires.capacity h)
