use Rattle.std.proofs.Common.{◌≡◌, take}
use Rattle.std.specs.List.{sum_by}
use Rattle.pg_bench.specs.Counts.{capped, cells_in}
use Rattle.pg_bench.proofs.totals.cell_count.Given as goal

abbrev pub invariant-loop-part : goal.invariant-loop-part
invariant-loop-part l = l.count ≡ capped (sum_by cells_in (take l.part-index l.parts))
