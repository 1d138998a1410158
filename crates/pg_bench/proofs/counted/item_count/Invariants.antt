use Rattle.std.proofs.Common.{◌≡◌, ◌%◌, ◌^◌, take}
use Rattle.std.specs.List.{sum_by}
use Rattle.pg_bench.specs.Counts.{items_taken}
use Rattle.pg_bench.proofs.counted.item_count.Given as goal

abbrev pub invariant-loop-program : goal.invariant-loop-program
invariant-loop-program g l = l.count ≡ sum_by items_taken (take l.program-index l.programs) % 2 ^ 64
