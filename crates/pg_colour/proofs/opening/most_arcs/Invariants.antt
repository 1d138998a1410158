use Rattle.std.proofs.Common.{◌<◌, ◌≤◌, ◌^◌, ℕ, length}
use Rattle.pg_colour.specs.Passes.{row}
use Rattle.pg_colour.proofs.opening.most_arcs.Given as goal

abbrev pub invariant-loop-place : goal.invariant-loop-place
invariant-loop-place l = record {
  most : (place : ℕ) → place < l.place → length (row l.part place) ≤ l.most;
  few : l.most < 2 ^ 32;
}
