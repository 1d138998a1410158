use Rattle.std.proofs.Common.{◌+◌, ap, arith, inr}
use Rattle.pg_run.specs.Turns.{is_done}
use Rattle.pg_run.proofs.Passes.{one_repeated, pass_over}
use Rattle.pg_run.proofs.threading.drive_group.Goals as goal

pub turns-preserved : goal.turns-preserved
turns-preserved g c = one_repeated g.D.Driven.Turned c.turns._turned c.args.machines.now c.turns.machines c.turn_each.new.machines c.turns.invariant c.turn_each.ensures.pass

pub returns-in-Done : goal.returns-in-Done
returns-in-Done g c =
    pass_over g.D.Driven.Turned g.D.Driven.ended (c.turns._turned + 1) 100000 c.args.machines.now c.turn_each.new.machines (omega (arith, c.turns-test.true))
    (one_repeated g.D.Driven.Turned c.turns._turned c.args.machines.now c.turns.machines c.turn_each.new.machines c.turns.invariant c.turn_each.ensures.pass) (inr (c.turn_each.ensures.done.0 (ap is_done c.in-Done.is)))
