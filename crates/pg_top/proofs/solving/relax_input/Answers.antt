use Rattle.std.proofs.Common.{None, subst}
use Rattle.pg_dist.specs.Sharing.{Sharing}
use Rattle.pg_dist.specs.contracts.blocks.BlockDistribution.TheImpl.{ghosts as block}
use Rattle.pg_top.specs.Distributions.{IsInBlocks}
use Rattle.pg_top.specs.Relaxed.{AreAnswers, IsRelaxation}
use Rattle.pg_top.specs.Work.{IsRelaxedBy}
use Rattle.pg_top.proofs.Outcomes.{ok_both}
use Rattle.pg_top.proofs.solving.relax_input.Goals as goal

pub returns-in-None : goal.returns-in-None
returns-in-None g c =
    let s : Sharing = block.sharing c.new-dist.result in
    let made = c.new-dist.ensures in
    let said = c.relax_over-in-None.ensures in
    let blocks : IsInBlocks c.n.result c.args.crew.now.ranks s = record { vertices = made.vertices; group = made.ranks; counts = made.counts; blocks = made.blocks } in
    rw c.in-None.is
    (ok_both c.relax_over-in-None.result
    (λ r. IsRelaxation c.args.label (g.M.Agendas.takes c.args.agendas.now) s c.args.input.graph c.args.crew.now.capacity r.finished.programs.items r.finished.lanes.items)
    (λ r. AreAnswers c.args.field s r.finished.programs.items r.answers.of_vertices.items)
    (λ r. IsRelaxedBy c.args.label (g.M.Agendas.takes c.args.agendas.now) c.args.field None c.args.crew.now.ranks c.args.crew.now.capacity c.args.input.graph r.answers.of_vertices.items r.finished.programs.items r.finished.lanes.items)
    said.relaxation said.held (λ r relaxation held. record {
      sharing = s;
      laws = said.laws;
      distribution = subst (λ n. IsInBlocks n c.args.crew.now.ranks s) c.n.ensures.value blocks;
      relaxation = relaxation;
      held = held;
    }))
