use Rattle.std.proofs.Common.{◌≡◌, ◌≤◌, ◌*◌, take}
use Rattle.std.specs.Io.KnownBytes.{Appends}
use Rattle.std.specs.List.{flat_map}
use Rattle.pg_base.specs.Forest.{total_weight}
use Rattle.pg_print.specs.Forests.{edge_line, edges_at}
use Rattle.pg_print.proofs.forests.print_forest.Given as goal

abbrev pub invariant-loop-index : goal.invariant-loop-index
invariant-loop-index g l = record {
  later : g.S.Sink.faults l.initial.out ≤ g.S.Sink.faults l.out;
  written : Appends (g.S.Sink.text l.initial.out) (g.S.Sink.text l.out) (flat_map edge_line (take l.index-index (edges_at l.graph.edges l.edges)));
  total : l.total ≡ total_weight (take l.index-index (edges_at l.graph.edges l.edges));
  most : l.total ≤ l.index-index * 4294967295;
}
