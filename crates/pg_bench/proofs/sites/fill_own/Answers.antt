use Rattle.std.proofs.Common.{arith}
use Rattle.pg_bench.proofs.Known.{known_own}
use Rattle.pg_bench.proofs.sites.fill_own.Goals as goal

pub put-requires-clause-known : goal.put-requires-clause-known
put-requires-clause-known c = λ _.
    known_own c.args.part.now c.loop-place.cells.part.value c.loop-place.place c.vertex-v.result.0 c.loop-place.invariant.part (omega (arith, c.loop-place-test.true, c.count-place-end.ensures)) c.vertex-v.ensures.value
