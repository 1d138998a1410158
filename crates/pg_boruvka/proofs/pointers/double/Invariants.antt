use Rattle.pg_boruvka.proofs.PointerWalks.{IsDoubling}
use Rattle.pg_boruvka.proofs.pointers.double.Given as goal

abbrev pub invariant-loop-label : goal.invariant-loop-label
invariant-loop-label l = IsDoubling l.fn.pointers l.pointers l.label l.changed
