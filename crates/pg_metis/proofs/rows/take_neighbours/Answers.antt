use Rattle.pg_metis.proofs.NeighbourLemmas.{takes-none, takes-more}
use Rattle.pg_metis.proofs.rows.take_neighbours.Goals as goal

pub loop-word-init : goal.loop-word-init
loop-word-init c = record {
  taken = takes-none c.args.header.format.edge_weights c.args.header.n c.args.vertex _ _ _ c.requires.earlier;
  goes = (tt, tt);
}

pub loop-word-preserved : goal.loop-word-preserved
loop-word-preserved c = record {
  taken = takes-more c.args.header.format.edge_weights c.args.header.n c.args.vertex c.in_ok-to.to c.in_ok-weight.weight _ _ _ _ c.in-Some.word.now _ _ _ _ _ c.loop-word.invariant.taken c.in-Some.ensures.steps c.in_ok-to.ensures.value c.in_ok-to.ensures.ok c.in_ok-to.ensures.faultless c.in_ok-weight.ensures.ok c.push.ensures.adds;
  goes = (tt, tt);
}
