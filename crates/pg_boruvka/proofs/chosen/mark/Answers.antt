use Rattle.std.proofs.Common.{◌≤◌, length, get_or, arith}
use Rattle.pg_boruvka.proofs.ChosenMarks.{marked_more, marked_past, marked_all}
use Rattle.pg_boruvka.proofs.chosen.mark.Goals as goal
use Rattle.pg_boruvka.proofs.chosen.mark.Goals.{then-edge, else-edge}

pub loop-edge-preserved : goal.loop-edge-preserved
loop-edge-preserved c =
    let edges = c.args.edges.now in
    let i = c.loop-edge.edge-index in
    elim c.if-edge.branch [
      | then-edge w ↦ rw w.chosen-is
          (marked_more edges c.args.chosen.now c.loop-edge.chosen i c.loop-edge-test.true (c.requires.within i 0 c.loop-edge-test.true w.if-edge.true) c.loop-edge.invariant)
      | else-edge w ↦ rw w.chosen-is
          (let great : length c.args.chosen.now ≤ get_or edges i 0 = omega (arith, w.if-edge.false, c.requires.few) in
          marked_past edges c.args.chosen.now c.loop-edge.chosen i c.loop-edge-test.true great c.loop-edge.invariant)
    ]

pub returns-clause-marked : goal.returns-clause-marked
returns-clause-marked c = marked_all c.args.edges.now c.args.chosen.now c.loop-edge.chosen c.loop-edge.edge-index c.loop-edge-test.false c.loop-edge.invariant
