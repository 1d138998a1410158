use Rattle.pg_boruvka.proofs.ChosenMarks.{AreListed}
use Rattle.pg_boruvka.proofs.chosen.list.Given as goal

abbrev pub invariant-loop-index : goal.invariant-loop-index
invariant-loop-index l = AreListed l.chosen l.list.items l.index
