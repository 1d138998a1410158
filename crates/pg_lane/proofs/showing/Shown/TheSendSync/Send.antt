-- A `Shown` owns nothing, so it may go to any thread.
use denote.RattleType.{RattleType}
use denote.Param.Send.{IsSend}
use Rattle.pg_lane.specs.contracts.showing.Shown.{the_row}

pub send : (U : RattleType) → IsSend (the_row U)
send U = record { owned = λ d vs. ((λ vss. (tt, ((λ uss. (tt, tt)), tt))), tt); leaving = λ k f vs. tt }
