use Rattle.std.proofs.lemmas.Result.{IfOk-weaker}
use Rattle.pg_group.specs.Entries.{Each}
use Rattle.pg_uses.specs.MapRuns.{HoldsDegrees, IsMapRunOver, KnowsNeighbours}
use Rattle.pg_uses.specs.Synchronizing.{part_in}
use Rattle.pg_uses.proofs.HeldDegrees.{holds_degrees, knows_neighbours}
use Rattle.pg_uses.proofs.WholeRuns.{in_order}
use Rattle.pg_uses.proofs.neighbour_runs.run_neighbour_degrees.Goals as goal

pub run_over-requires-clause-order : goal.run_over-requires-clause-order
run_over-requires-clause-order g c κs within =
    in_order (g.D.Distribution.sharing c.args.dist.now) (g.met.D.Distribution.laws c.args.dist.now) c.args.graph.now c.n-n.ensures.graph c.requires.n c.in_ok-parts.parts.items c.in_ok-parts.ensures

pub returns-clause-degrees : goal.returns-clause-degrees
returns-clause-degrees g c =
    let s = g.D.Distribution.sharing c.args.dist.now in
    let laws = g.met.D.Distribution.laws c.args.dist.now in
    let parts = c.in_ok-parts.parts.items in
    IfOk-weaker c.run_over.result (λ f. IsMapRunOver parts f.programs.items f.lanes.items) (λ f. Each (λ rank p. HoldsDegrees c.args.graph.now p) f.programs.items)
    (λ f run. holds_degrees s laws c.args.graph.now c.n-n.ensures.graph c.requires.n parts c.in_ok-parts.ensures f.programs.items f.lanes.items run) c.run_over.ensures

pub returns-clause-neighbours : goal.returns-clause-neighbours
returns-clause-neighbours g c =
    let s = g.D.Distribution.sharing c.args.dist.now in
    let laws = g.met.D.Distribution.laws c.args.dist.now in
    let parts = c.in_ok-parts.parts.items in
    IfOk-weaker c.run_over.result (λ f. IsMapRunOver parts f.programs.items f.lanes.items) (λ f. Each (λ rank p. KnowsNeighbours s c.args.graph.now rank (part_in p)) f.programs.items)
    (λ f run. knows_neighbours s laws c.args.graph.now c.n-n.ensures.graph c.requires.n parts c.in_ok-parts.ensures f.programs.items f.lanes.items run) c.run_over.ensures
