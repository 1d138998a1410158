-- Any thread may share a `Shown`, which owns nothing.
use denote.RattleType.{RattleType}
use denote.Param.Send.{IsSync, part_keyless}
use Rattle.pg_lane.specs.contracts.showing.Shown.{the_row}
use Rattle.pg_lane.proofs.showing.Shown.TheSendSync.Send.{send}

pub sync : (U : RattleType) → IsSync (the_row U)
sync U = record { shared = λ d b o κ q. part_keyless (the_row U) (send U) q d b o }
