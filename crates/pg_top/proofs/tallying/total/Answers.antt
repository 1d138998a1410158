use Rattle.std.proofs.Common.{◌≡◌, List, Some, get_or, refl, arith}
use Rattle.std.specs.List.{slice_get}
use Rattle.pg_base.specs.declared.edges.Edge.{Edge}
use Rattle.pg_print.specs.Forests.{edges_at, no_edge}
use Rattle.pg_print.proofs.Edges.{edge_there, weight-more}
use Rattle.pg_top.proofs.tallying.total.Goals as goal

pub loop-index-preserved : goal.loop-index-preserved
loop-index-preserved c =
    let tree : List Edge = edges_at c.args.edges.now c.args.indices.now in
    let i = c.loop-index.index-index in
    let edge : Edge = get_or c.args.edges.now (get_or c.args.indices.now i 0) no_edge in
    let at : slice_get tree i ≡ Some edge = edge_there c.args.edges.now c.args.edges.now c.args.indices.now i refl c.loop-index-test.true in
    record {
      total = rw (weight-more tree i edge at) (omega (arith, c.loop-index.invariant.total, c.from-total.ensures));
      most = search arith;
    }
