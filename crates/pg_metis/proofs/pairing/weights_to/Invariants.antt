use Rattle.std.proofs.Common.{◌≡◌, length, take}
use Rattle.pg_metis.specs.Pairing.{arcs_named}
use Rattle.pg_metis.proofs.Weights.{AreEntered}
use Rattle.pg_metis.proofs.pairing.weights_to.Given as goal

abbrev pub invariant-loop-arc : goal.invariant-loop-arc
invariant-loop-arc l = record {
  count : length l.weights.items ≡ l.n;
  entered : AreEntered l.vertex (arcs_named l.arcs) (take l.arc-index (arcs_named l.arcs)) l.weights.items;
}
