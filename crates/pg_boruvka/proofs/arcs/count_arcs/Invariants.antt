use Rattle.std.specs.Prelude.{◌≡◌, ◌-◌, ◌^◌, length, min}
use Rattle.pg_boruvka.specs.Portions.{arcs_below}
use Rattle.pg_boruvka.proofs.arcs.count_arcs.Given as goal

abbrev pub invariant-loop-place : goal.invariant-loop-place
invariant-loop-place l = l.count ≡ min (length (arcs_below l.part l.place)) (2 ^ 64 - 1)
