use Rattle.pg_boruvka.proofs.PointerWalks.{IsShortening}
use Rattle.pg_boruvka.proofs.pointers.shorten.Given as goal

abbrev pub invariant-loop : goal.invariant-loop
invariant-loop l = IsShortening l.fn.pointers l.pointers l.counter
