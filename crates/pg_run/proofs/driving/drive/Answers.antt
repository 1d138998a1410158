use Rattle.pg_run.proofs.Passes.{passes_follow}
use Rattle.pg_run.proofs.driving.drive.Goals as goal

pub returns-clause-follow : goal.returns-clause-follow
returns-clause-follow g c =
    passes_follow g.met.M.Outbox.later_same g.met.M.Outbox.later_on c.drive_here.ensures.passes.0 c.args.machines.now c.drive_here.new.machines c.drive_here.ensures.passes.1
