use Rattle.std.proofs.Common.{ap}
use Rattle.pg_group.specs.Rounds.{is_mark}
use Rattle.pg_group.proofs.Lanes.{ends_after}
use Rattle.pg_group.proofs.inlanes.InLaneTakes.take.Goals as goal

pub invariant_of-self-in-Mark : goal.invariant_of-self-in-Mark
invariant_of-self-in-Mark g c =
    record { mark = λ _. ends_after (g.I.InEnd.taken c.args.self.now.end) (g.I.InEnd.taken c.pop.new.self) c.in-Some.field-0 c.in-Some.ensures.some (ap is_mark c.in-Mark.is) }
