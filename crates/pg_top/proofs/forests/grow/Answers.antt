use Rattle.std.proofs.Common.{List, length, sym, subst}
use Rattle.pg_base.specs.declared.edges.Edge.{Edge}
use Rattle.pg_top.specs.Grown.{HaveEdgesBelow}
use Rattle.pg_top.proofs.EdgesBelow.{edges_below}
use Rattle.pg_top.proofs.forests.grow.Goals as goal

pub grow_parts-requires-clause-below : goal.grow_parts-requires-clause-below
grow_parts-requires-clause-below g c κs within =
    subst (λ (edges : List Edge). HaveEdgesBelow (length edges) c.in_ok-parts.parts.items) (sym c.edges.ensures.value)
    (edges_below (g.D.Distribution.sharing c.args.dist.now) c.args.graph.now c.in_ok-parts.parts.items ((g.met.D.Distribution g.world.𝓛 g.world.𝓜 g.world.𝓡 ((λ s x. x), (λ x. x), (λ x. x), λ x. x)).laws c.args.dist.now) c.edges.ensures.graph c.requires.n c.in_ok-parts.ensures)
