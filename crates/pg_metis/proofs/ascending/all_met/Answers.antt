use Rattle.std.proofs.Common.{arith, refl}
use Rattle.pg_metis.proofs.Cursors.{met_all, met_more, no_edge}
use Rattle.pg_metis.proofs.ascending.all_met.Goals as goal

pub loop-edge-preserved : goal.loop-edge-preserved
loop-edge-preserved c =
    met_more c.args.back.now c.args.edges.now c.loop-edge.cursors c.meets_next.new.cursors c.loop-edge.edge-index no_edge c.requires.ascending c.loop-edge-test.true
    (let below = c.requires.vertices c.loop-edge.edge-index no_edge c.loop-edge-test.true in omega (arith, c.loop-edge.auto.cursors, below)) (c.if-not-meets_next.ensures.met refl) (c.if-not-meets_next.ensures.moved refl) c.loop-edge.invariant

pub returns-clause-among : goal.returns-clause-among
returns-clause-among c = λ _. (met_all c.args.back.now c.args.edges.now c.loop-edge.cursors c.loop-edge.edge-index (omega (arith, c.loop-edge-test.false)) c.loop-edge.invariant).0
