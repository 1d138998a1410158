use Rattle.std.proofs.Common.{◌≡◌, ◌∙◌, ◌≤◌, List, OnErr, Some, get_or, length, take, drop, suc, ap, subst, codes, arith}
use Rattle.std.specs.List.{flat_map, slice_get}
use Rattle.std.specs.Io.KnownBytes.{Appends}
use Rattle.pg_outside.specs.Written.{AppendsFront}
use Rattle.std.proofs.lemmas.Result.{err_from_is_err_and}
use Rattle.std.proofs.lemmas.List.{length-map, take_all}
use Rattle.pg_base.specs.declared.edges.Edge.{Edge}
use Rattle.pg_base.specs.Forest.{total_weight}
use Rattle.pg_print.specs.Forests.{edge_line, edges_at, no_edge}
use Rattle.pg_print.specs.Lines.{number_line}
use Rattle.pg_print.proofs.Edges.{edge_there, weight-more}
use Rattle.pg_print.proofs.Writing.{Appends-more, AppendsFront-longer, AppendsFront-more, flat_map-cut, flat_map-more, front_of_both}
use Rattle.pg_print.proofs.forests.print_forest.Goals as goal

pub loop-index-preserved : goal.loop-index-preserved
loop-index-preserved g c =
    let tree : List Edge = edges_at c.args.graph.now.edges c.args.edges.now in
    let i = c.loop-index.index-index in
    let edge : Edge = get_or c.edges-graph_edges.result.now (get_or c.args.edges.now i 0) no_edge in
    let at : slice_get tree i ≡ Some edge = edge_there c.args.graph.now.edges c.edges-graph_edges.result.now c.args.edges.now i c.edges-graph_edges.ensures.value c.loop-index-test.true in
    record {
      later = omega arith;
      written = rw (flat_map-more edge_line tree i edge at) (Appends-more _ _ _ _ _ c.loop-index.invariant.written c.in_ok-print_edge.ensures.ok);
      total = rw (weight-more tree i edge at) (omega (arith, c.loop-index.invariant.total, c.from-total.ensures));
      most = omega (arith, c.loop-index.invariant.most, c.from-total.ensures, c.print_edge.ensures.weight);
    }

pub overflow_add-total : goal.overflow_add-total
overflow_add-total g c = omega (arith, c.loop-index.invariant.most, c.from-total.ensures, c.print_edge.ensures.weight, c.loop-index-test.true, c.requires.at_most, c.edges-graph_edges.ensures.graph.size)

pub returns-in_err-print_edge-clause-err : goal.returns-in_err-print_edge-clause-err
returns-in_err-print_edge-clause-err g c =
    let tree : List Edge = edges_at c.args.graph.now.edges c.args.edges.now in
    let i = c.loop-index.index-index in
    let edge : Edge = get_or c.edges-graph_edges.result.now (get_or c.args.edges.now i 0) no_edge in
    let at : slice_get tree i ≡ Some edge = edge_there c.args.graph.now.edges c.edges-graph_edges.result.now c.args.edges.now i c.edges-graph_edges.ensures.value c.loop-index-test.true in
    let p = err_from_is_err_and c.from_residual.result c.from_residual.ensures.1 in
    rw p.1 (AppendsFront-longer _ _ (flat_map edge_line tree) (number_line (codes "total") (total_weight tree))
    (rw (flat_map-cut edge_line tree i edge at) (AppendsFront-more _ _ _ _ _ (flat_map edge_line (drop (suc i) tree)) c.loop-index.invariant.written c.in_err-print_edge.ensures.err)))

pub returns-clause-err : goal.returns-clause-err
returns-clause-err g c =
    let tree : List Edge = edges_at c.args.graph.now.edges c.args.edges.now in
    let long : length tree ≤ c.loop-index.index-index = omega (arith, length-map c.args.edges.now (λ k. get_or c.args.graph.now.edges k no_edge), c.loop-index-test.false) in
    let all : take c.loop-index.index-index tree ≡ tree = take_all c.loop-index.index-index tree long in
    front_of_both c.print_total.result _ _ _ (flat_map edge_line tree) (number_line (codes "total") (total_weight tree))
    (subst (λ list. Appends (g.S.Sink.text c.args.out.now) (g.S.Sink.text c.loop-index.out) (flat_map edge_line list)) all c.loop-index.invariant.written)
    (subst (λ total. OnErr c.print_total.result (AppendsFront (g.S.Sink.text c.loop-index.out) (g.S.Sink.text c.print_total.new.out) (number_line (codes "total") total)))
    (c.loop-index.invariant.total ∙ ap total_weight all) c.print_total.ensures.err)
