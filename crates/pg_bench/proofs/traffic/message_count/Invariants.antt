use Rattle.std.proofs.Common.{◌≡◌, ◌%◌, ◌^◌, take}
use Rattle.std.specs.List.{sum_by}
use Rattle.pg_bench.specs.Counts.{sent_down}
use Rattle.pg_bench.proofs.traffic.message_count.Given as goal

abbrev pub invariant-loop-lane : goal.invariant-loop-lane
invariant-loop-lane g l = l.count ≡ sum_by sent_down (take l.lane-index l.lanes) % 2 ^ 64
