use Rattle.std.proofs.Common.{◌≡◌, ◌≤◌, ◌*◌, take}
use Rattle.pg_base.specs.Forest.{total_weight}
use Rattle.pg_print.specs.Forests.{edges_at}
use Rattle.pg_top.proofs.tallying.total.Given as goal

abbrev pub invariant-loop-index : goal.invariant-loop-index
invariant-loop-index l = record {
  total : l.total ≡ total_weight (take l.index-index (edges_at l.edges l.indices));
  most : l.total ≤ l.index-index * 4294967295;
}
