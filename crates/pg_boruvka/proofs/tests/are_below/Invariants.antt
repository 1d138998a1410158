use Rattle.std.proofs.Common.{◌<◌, All}
use Rattle.pg_boruvka.specs.Portions.{arcs_below}
use Rattle.pg_boruvka.proofs.tests.are_below.Given as goal

abbrev pub invariant-loop-place : goal.invariant-loop-place
invariant-loop-place l = All (λ a. a.edge < l.edges) (arcs_below l.part l.place)
