use Rattle.std.proofs.Common.{◌≡◌, ◌≤◌, take}
use Rattle.pg_top.specs.Summary.{clash_count}
use Rattle.pg_top.proofs.tallying.clashes.Given as goal

abbrev pub invariant-loop-edge : goal.invariant-loop-edge
invariant-loop-edge l = record {
  counted : l.count ≡ clash_count (take l.edge-index l.edges) l.colours;
  few : l.count ≤ l.edge-index;
}
