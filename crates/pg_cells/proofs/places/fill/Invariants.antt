use Rattle.std.proofs.Common.{ℕ, ◌<◌, get_or}
use Rattle.pg_cells.specs.Sparse.{IsFound}
use Rattle.pg_cells.proofs.places.fill.Given as goal

abbrev pub invariant-loop-place : goal.invariant-loop-place
invariant-loop-place l = (k : ℕ) → k < l.place → IsFound l.vertices l.first l.sparse (get_or l.vertices k 0)
