use Rattle.std.proofs.Common.{◌≡◌, ◌-◌, ◌*◌, ◌≤◌, ◌++◌, length, vec_capacity}
use Rattle.pg_make.specs.Grid.{drawn, ends_after, grid_of}
use Rattle.pg_make.proofs.grids.grid.Given as goal

-- The edges so far, with those that are drawn for the vertices left, are the edges of the whole.
abbrev pub invariant-loop-passed : goal.invariant-loop-passed
invariant-loop-passed l = record {
  whole : l.drawing.edges.items ++ drawn l.drawing.state (ends_after l.width l.height l.passed (l.count - l.passed))
      ≡ (grid_of l.width l.height l.seed).edges;
  few : length l.drawing.edges.items ≤ 2 * l.passed;
  room : vec_capacity l.drawing.edges ≡ 2 * l.count;
}
