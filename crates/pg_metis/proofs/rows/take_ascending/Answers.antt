use Rattle.pg_metis.proofs.AscendingLemmas.{ascends-none, ascends-more}
use Rattle.pg_metis.proofs.rows.take_ascending.Goals as goal

pub loop-word-init : goal.loop-word-init
loop-word-init c = record {
  taken = ascends-none c.args.header.format.edge_weights c.args.header.n c.args.vertex _ _;
  goes = (tt, tt);
}

pub loop-word-preserved : goal.loop-word-preserved
loop-word-preserved c = record {
  taken = ascends-more c.args.header.format.edge_weights c.args.header.n c.args.vertex c.loop-word.last c.in-Some-greater_neighbour.to c.in-Ok.weight _ _ _ _ c.in-Some.word.now _ _ _ c.loop-word.invariant.taken c.in-Some.ensures.steps c.in-Some-greater_neighbour.ensures.value c.in-Some-greater_neighbour.ensures.greater c.in-Some-greater_neighbour.ensures.faultless c.in-Ok.ensures.ok c.push.ensures.adds c.push.ensures.extends;
  goes = (tt, tt);
}
