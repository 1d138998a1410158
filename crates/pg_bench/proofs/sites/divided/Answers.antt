use Rattle.pg_bench.proofs.EdgesBelow.{edges_below}
use Rattle.pg_bench.proofs.sites.divided.Goals as goal

pub returns-clause-edges : goal.returns-clause-edges
returns-clause-edges g c =
    edges_below (g.D.Distribution.sharing c.args.dist.now) c.args.graph.now c.in_ok-parts.parts.items ((g.met.D.Distribution g.world.𝓛 g.world.𝓜 g.world.𝓡 ((λ s x. x), (λ x. x), (λ x. x), λ x. x)).laws c.args.dist.now) c.n-n.ensures.graph c.requires c.in_ok-parts.ensures
