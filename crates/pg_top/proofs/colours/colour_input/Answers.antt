use Rattle.std.proofs.Common.{None, subst}
use Rattle.pg_dist.specs.Sharing.{Sharing}
use Rattle.pg_dist.specs.contracts.blocks.BlockDistribution.TheImpl.{ghosts as block}
use Rattle.pg_top.specs.Distributions.{IsInBlocks}
use Rattle.pg_top.specs.Coloured.{AreHeld, IsColouring}
use Rattle.pg_top.specs.Work.{IsColouredBy}
use Rattle.pg_top.proofs.Outcomes.{ok_both}
use Rattle.pg_top.proofs.colours.colour_input.Goals as goal

pub returns-in-None : goal.returns-in-None
returns-in-None g c =
    let s : Sharing = block.sharing c.new-dist.result in
    let made = c.new-dist.ensures in
    let said = c.colour_over-in-None.ensures in
    let blocks : IsInBlocks c.n.result c.args.crew.now.ranks s = record { vertices = made.vertices; group = made.ranks; counts = made.counts; blocks = made.blocks } in
    rw c.in-None.is
    (ok_both c.colour_over-in-None.result
    (λ r. IsColouring s c.args.input.graph c.args.crew.now.capacity r.finished.programs.items r.finished.lanes.items)
    (λ r. AreHeld s r.finished.programs.items r.colours.of_vertices.items)
    (λ r. IsColouredBy None c.args.crew.now.ranks c.args.crew.now.capacity c.args.input.graph r.colours.of_vertices.items r.finished.programs.items r.finished.lanes.items)
    said.coloured said.held (λ r coloured held. record {
      sharing = s;
      laws = said.laws;
      distribution = subst (λ n. IsInBlocks n c.args.crew.now.ranks s) c.n.ensures.value blocks;
      colouring = coloured;
      held = held;
    }))
