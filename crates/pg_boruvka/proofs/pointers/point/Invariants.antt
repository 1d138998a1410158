use Rattle.pg_boruvka.proofs.PointerPairs.{IsPointing}
use Rattle.pg_boruvka.proofs.pointers.point.Given as goal

abbrev pub invariant-loop-label : goal.invariant-loop-label
invariant-loop-label l = IsPointing l.fn.targets l.targets l.label
