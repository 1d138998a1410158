use Rattle.std.proofs.Common.{◌≡◌, ◌≤◌, ◌-◌, length, slice_range, All}
use Rattle.pg_metis.specs.Marks.{TakeMarks}
use Rattle.pg_metis.specs.Pairing.{arcs_named}
use Rattle.pg_metis.proofs.pairing.look_at_line.Given as goal

abbrev pub invariant-loop-end : goal.invariant-loop-end
invariant-loop-end l = record {
  rises : l.begin ≤ l.end;
  within : l.end ≤ length l.arcs;
  line : All (λ a. a.from ≡ l.u) (slice_range (arcs_named l.arcs) l.begin l.end);
  marks : TakeMarks (slice_range (arcs_named l.arcs) l.begin l.end) l.fn.marks l.marks;
}

abbrev pub decreases-loop-end : goal.decreases-loop-end
decreases-loop-end l = length l.arcs - l.end
