use Rattle.pg_boruvka.proofs.ArcTables.{ArePushed, AreSmall}
use Rattle.pg_boruvka.proofs.arcs.push_arcs.Given as goal

abbrev pub invariant-loop-arc : goal.invariant-loop-arc
invariant-loop-arc l = record {
  pushed : ArePushed l.from l.fn.arcs.items l.arcs.items l.arc-items l.arc-index;
  small : AreSmall l.fn.arcs.items → AreSmall l.arcs.items;
}
