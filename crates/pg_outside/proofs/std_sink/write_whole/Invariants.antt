use Rattle.std.proofs.Common.{length}
use Rattle.pg_outside.proofs.Writes.{WrittenUpTo}
use Rattle.pg_outside.proofs.std_sink.write_whole.Given as goal

abbrev pub invariant-loop-rest : goal.invariant-loop-rest
invariant-loop-rest g l = WrittenUpTo (g.W.Write.contents l.fn.stream) (g.W.Write.contents l.stream) l.bytes l.rest

abbrev pub decreases-loop-rest : goal.decreases-loop-rest
decreases-loop-rest g l = length l.rest
