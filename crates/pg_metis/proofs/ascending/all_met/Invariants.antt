use Rattle.std.proofs.Common.{take}
use Rattle.pg_metis.proofs.Cursors.{AreMet}
use Rattle.pg_metis.proofs.ascending.all_met.Given as goal

abbrev pub invariant-loop-edge : goal.invariant-loop-edge
invariant-loop-edge l = AreMet l.edges l.cursors (take l.edge-index l.back)
