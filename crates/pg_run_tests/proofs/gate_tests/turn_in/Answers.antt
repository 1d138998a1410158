use Rattle.std.proofs.Common.{length, sym, ap, ◌∙◌, subst, arith}
use Rattle.pg_run.specs.Driven.{HaveFollowed}
use Rattle.pg_run.specs.Machines.{machines_of}
use Rattle.pg_run.specs.Room.{HasRoomFor}
use Rattle.pg_run.proofs.Ready.{written_back}
use Rattle.pg_run_tests.proofs.gate_tests.turn_in.Goals as goal

pub returns-clause-follow : goal.returns-clause-follow
returns-clause-follow g c =
    let group = c.args.group.now in
    let said = subst (λ l. HaveFollowed l c.turn_one.new.machines) c.machines.ensures.value c.turn_one.ensures.follow in
    subst (λ l. HaveFollowed (machines_of group) l) (sym (written_back group.runners.len c.turn_one.new.machines _ (omega (arith, said.long, group.runners.ok.0)))) said

pub returns-clause-room : goal.returns-clause-room
returns-clause-room g c = λ room.
    let group = c.args.group.now in
    let said = subst (λ l. HaveFollowed l c.turn_one.new.machines) c.machines.ensures.value c.turn_one.ensures.follow in
    subst (λ n. HasRoomFor n group.programs group.ports group.lanes) (sym (ap length (written_back group.runners.len c.turn_one.new.machines _ (omega (arith, said.long, group.runners.ok.0))) ∙ said.long)) room
