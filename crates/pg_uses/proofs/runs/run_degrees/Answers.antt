use Rattle.std.proofs.lemmas.Result.{IfOk-weaker}
use Rattle.pg_group.specs.Entries.{Each}
use Rattle.pg_uses.specs.Degrees.{IsGreatestDegree}
use Rattle.pg_uses.specs.Runs.{IsRunOver}
use Rattle.pg_uses.proofs.WholeRuns.{found_greatest, in_order}
use Rattle.pg_uses.proofs.runs.run_degrees.Goals as goal

pub run_over-requires-clause-order : goal.run_over-requires-clause-order
run_over-requires-clause-order g c κs within =
    in_order (g.D.Distribution.sharing c.args.dist.now) (g.met.D.Distribution.laws c.args.dist.now) c.args.graph.now c.n-n.ensures.graph c.requires.n c.in_ok-parts.parts.items c.in_ok-parts.ensures

pub returns-clause-each : goal.returns-clause-each
returns-clause-each g c =
    let s = g.D.Distribution.sharing c.args.dist.now in
    let laws = g.met.D.Distribution.laws c.args.dist.now in
    IfOk-weaker c.run_over.result (λ f. IsRunOver c.in_ok-parts.parts.items f.programs.items f.lanes.items) (λ f. Each (λ rank p. IsGreatestDegree c.args.graph.now p.greatest) f.programs.items)
    (λ f run. found_greatest s laws c.args.graph.now c.n-n.ensures.graph c.requires.n c.in_ok-parts.parts.items c.in_ok-parts.ensures f.programs.items f.lanes.items run) c.run_over.ensures
