use denote.Exit.{no}
use denote.Param.{param, copied}
use denote.Param.Send.{param_send, arg_send}
use Rattle.pg_run.proofs.Passes.{group_passes_follow}
use Rattle.pg_run.proofs.Sending.{runner_send}
use Rattle.pg_run.proofs.running.drive_machines.Goals as goal

-- A machine may be sent to a thread where its program and its mailbox may.
pub drive_all-requires-send-D : goal.drive_all-requires-send-D
drive_all-requires-send-D g c κs within =
    param_send 1 _ (arg_send _ no _ (runner_send (param 1 g.row.P) (param 2 g.row.M) (copied 4 g.row.P-Body) _ _ _ c.type_bounds.send-P c.type_bounds.send-M))

pub returns-clause-follow : goal.returns-clause-follow
returns-clause-follow g c =
    let passes = c.drive_all.ensures.passes in
    let laws = g.met.M.Outbox g.world.𝓛 g.world.𝓜 g.world.𝓡 ((λ s x. x), (λ x. x), (λ x. x), λ x. x) in
    group_passes_follow laws.later_same laws.later_on 100000 passes.0 c.args.machines.now c.drive_all.new.machines passes.1
