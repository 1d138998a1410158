use Rattle.pg_uses.proofs.Looking.{AreFirst}
use Rattle.pg_uses.proofs.neighbour_runs.degrees_by_vertex.Given as goal

abbrev pub invariant-loop-i : goal.invariant-loop-i
invariant-loop-i g l = AreFirst l.graph l.i l.degrees.items
