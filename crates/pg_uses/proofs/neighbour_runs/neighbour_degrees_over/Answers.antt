use Rattle.std.proofs.Common.{List, subst, sym}
use Rattle.pg_group.specs.Entries.{Each}
use Rattle.pg_uses.specs.declared.neighbours.NeighbourDegrees.{NeighbourDegrees}
use Rattle.pg_uses.specs.MapRuns.{HoldsDegrees, KnowsNeighbours}
use Rattle.pg_uses.specs.Synchronizing.{part_in}
use Rattle.pg_uses.proofs.neighbour_runs.neighbour_degrees_over.Goals as goal

pub degrees_by_vertex-requires-clause-degrees : goal.degrees_by_vertex-requires-clause-degrees
degrees_by_vertex-requires-clause-degrees g c =
    subst (λ (programs : List NeighbourDegrees). Each (λ rank p. HoldsDegrees c.args.graph.now p) programs) (sym c.deref.ensures.value) c.in_ok-finished.ensures.degrees

pub degrees_by_vertex-requires-clause-neighbours : goal.degrees_by_vertex-requires-clause-neighbours
degrees_by_vertex-requires-clause-neighbours g c =
    subst (λ (programs : List NeighbourDegrees). Each (λ rank p. KnowsNeighbours (g.D.Distribution.sharing c.args.dist.now) c.args.graph.now rank (part_in p)) programs)
    (sym c.deref.ensures.value) c.in_ok-finished.ensures.neighbours
