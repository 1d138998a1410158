use Rattle.std.proofs.Common.{◌≡◌, take}
use Rattle.pg_cells.proofs.places.own_vertices.Given as goal

abbrev pub invariant-loop-i : goal.invariant-loop-i
invariant-loop-i l = l.vertices.items ≡ take l.i l.part.vertices
