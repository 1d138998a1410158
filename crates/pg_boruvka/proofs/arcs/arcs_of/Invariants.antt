use Rattle.pg_boruvka.proofs.ArcTables.{ArePlaced}
use Rattle.pg_boruvka.proofs.arcs.arcs_of.Given as goal

abbrev pub invariant-loop-place : goal.invariant-loop-place
invariant-loop-place l = ArePlaced l.part l.arcs.items l.place
