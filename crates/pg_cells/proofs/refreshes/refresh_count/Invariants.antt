use Rattle.std.proofs.Common.{◌≡◌, length, min}
use Rattle.pg_cells.specs.States.{refreshes_below}
use Rattle.pg_cells.proofs.refreshes.refresh_count.Given as goal

abbrev pub invariant-loop-place : goal.invariant-loop-place
invariant-loop-place l = l.count ≡ min (length (refreshes_below l.part l.place)) 18446744073709551615
