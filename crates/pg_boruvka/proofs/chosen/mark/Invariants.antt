use Rattle.pg_boruvka.proofs.ChosenMarks.{AreMarkedTo}
use Rattle.pg_boruvka.proofs.chosen.mark.Given as goal

abbrev pub invariant-loop-edge : goal.invariant-loop-edge
invariant-loop-edge l = AreMarkedTo l.edges l.fn.chosen l.chosen l.edge-index
