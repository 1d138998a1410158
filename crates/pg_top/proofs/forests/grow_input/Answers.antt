use Rattle.std.proofs.Common.{None, subst}
use Rattle.pg_dist.specs.Sharing.{Sharing}
use Rattle.pg_dist.specs.contracts.blocks.BlockDistribution.TheImpl.{ghosts as block}
use Rattle.pg_top.specs.Distributions.{IsInBlocks}
use Rattle.pg_top.specs.Grown.{IsGrowth}
use Rattle.pg_top.specs.Work.{IsGrownBy}
use Rattle.pg_top.proofs.Outcomes.{ok_then}
use Rattle.pg_top.proofs.forests.grow_input.Goals as goal

pub returns-in-None : goal.returns-in-None
returns-in-None g c =
    let s : Sharing = block.sharing c.new-dist.result in
    let made = c.new-dist.ensures in
    let said = c.grow-in-None.ensures in
    let blocks : IsInBlocks c.n-n.result c.args.crew.now.ranks s = record { vertices = made.vertices; group = made.ranks; counts = made.counts; blocks = made.blocks } in
    rw c.in-None.is
    (ok_then c.grow-in-None.result
    (λ f. IsGrowth s c.args.graph.now c.args.crew.now.capacity f.programs.items f.lanes.items)
    (λ f. IsGrownBy None c.args.crew.now.ranks c.args.crew.now.capacity c.args.graph.now f.programs.items f.lanes.items)
    said.grown (λ f growth. record {
      sharing = s;
      laws = said.laws;
      distribution = subst (λ n. IsInBlocks n c.args.crew.now.ranks s) c.n-n.ensures.value blocks;
      growth = growth;
    }))
