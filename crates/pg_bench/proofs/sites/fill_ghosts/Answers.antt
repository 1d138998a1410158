use Rattle.pg_bench.proofs.Known.{known_ghost}
use Rattle.pg_bench.proofs.sites.fill_ghosts.Goals as goal

pub put-requires-clause-known : goal.put-requires-clause-known
put-requires-clause-known c = λ _.
    known_ghost c.args.part.now c.loop-held.cells.part.value c.ghosts-held-items.result.now c.loop-held.held-index _ c.loop-held.invariant.part c.ghosts-held-items.ensures.value c.loop-held-test.true
