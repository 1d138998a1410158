-- A counted program may be sent to a thread where the program may.
use denote.RattleType.{RattleType}
use denote.Param.Send.{IsSend, sendable}
use Rattle.std.proofs.Crossing.{crosses}
use Rattle.pg_bench.specs.contracts.counted.Counted as counted

pub counted_send : (P : RattleType) → IsSend P → IsSend (counted.the_row P)
counted_send P program = search (sendable, crosses) depth 40
