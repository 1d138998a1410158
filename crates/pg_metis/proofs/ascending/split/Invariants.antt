use Rattle.std.proofs.Common.{◌≡◌, length, take}
use Rattle.pg_metis.specs.declared.ascending.TheConstants.{BLOCKS}
use Rattle.pg_metis.specs.Ascending.{AreBackOrBlank}
use Rattle.pg_metis.specs.Pairing.{arcs_named}
use Rattle.pg_metis.proofs.Splitting.{AreForth}
use Rattle.pg_metis.proofs.ascending.split.Given as goal

abbrev pub invariant-loop-arc : goal.invariant-loop-arc
invariant-loop-arc l = record {
  count : length l.ends ≡ BLOCKS;
  forth : AreForth (take l.arc-index (arcs_named l.arcs)) l.last l.edges.items;
  back : AreBackOrBlank (arcs_named l.arcs) l.back;
}
