use Rattle.std.proofs.Common.{◌≡◌, length}
use Rattle.pg_metis.specs.Lines.{IsSettled}
use Rattle.pg_metis.specs.Pairing.{arcs_named}
use Rattle.pg_metis.proofs.pairing.first_unpaired.Given as goal

abbrev pub invariant-loop-u : goal.invariant-loop-u
invariant-loop-u l = record {
  count : length l.marks.items ≡ l.n;
  settled : IsSettled l.u (arcs_named l.arcs) l.edges l.place.arcs l.place.edges l.marks.items;
}
