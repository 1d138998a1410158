use Rattle.std.proofs.Common.{◌≡◌, ◌≤◌, ◌-◌, length, slice_range, All}
use Rattle.pg_metis.specs.Marks.{LeaveMarks}
use Rattle.pg_metis.proofs.pairing.mark_edges.Given as goal

abbrev pub invariant-loop-end : goal.invariant-loop-end
invariant-loop-end l = record {
  rises : l.begin ≤ l.end;
  within : l.end ≤ length l.edges;
  row : All (λ e. e.u ≡ l.u) (slice_range l.edges l.begin l.end);
  marks : LeaveMarks (slice_range l.edges l.begin l.end) l.fn.marks l.marks;
}

abbrev pub decreases-loop-end : goal.decreases-loop-end
decreases-loop-end l = length l.edges - l.end
