use Rattle.std.proofs.Common.{◌≡◌, length, map}
use Rattle.std.specs.List.{sum_by, range_with_len}
use Rattle.pg_base.specs.Keyed.{row_of}
use Rattle.pg_bench.specs.Counts.{capped}
use Rattle.pg_bench.proofs.totals.arc_count.Given as goal

abbrev pub invariant-loop-i : goal.invariant-loop-i
invariant-loop-i l = l.count ≡ capped (sum_by length (map (row_of l.part.bounds l.part.arcs) (range_with_len 0 l.i)))
