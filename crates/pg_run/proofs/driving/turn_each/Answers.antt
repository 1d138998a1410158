use Rattle.std.proofs.Common.{◌<◌, length, refl, sym, subst, arith, ◌∙◌}
use Rattle.std.proofs.lemmas.Option.{slice_get_within}
use Rattle.pg_run.specs.Turns.{is_done}
use Rattle.pg_run.proofs.Passes.{none_stepped, one_stepped, all_stepped, none_ended, one_more_ended}
use Rattle.pg_run.proofs.driving.turn_each.Goals as goal

pub loop-i-init : goal.loop-i-init
loop-i-init g c = record { stepped = none_stepped g.D.Driven.Turned c.args.machines.now; ended = ((λ _. none_ended g.D.Driven.ended c.args.machines.now 0 refl), λ _. refl) }

pub loop-i-preserved : goal.loop-i-preserved
loop-i-preserved g c =
    let inv = c.loop-i.invariant in
    let rs = c.loop-i.machines in
    let i = c.loop-i.i in
    let now = c.turn_one.new.machine in
    let within : i < length rs = omega (arith, c.loop-i-test.true, c.loop-i.auto.machines) in
    let more = one_more_ended g.D.Driven.ended rs i now (is_done c.loop-i.all) (is_done c.turn_one.result) within inv.ended c.turn_one.ensures.done in
    record {
      stepped = one_stepped g.D.Driven.Turned c.args.machines.now rs i c.index-machines-i.result now inv.stepped within c.index-machines-i.is
          (subst (λ w. g.D.Driven.Turned w now) (sym c.index-machines-i.is) c.turn_one.ensures.turn);
      ended = ((λ done. more.0 (sym c.both-all.ensures.done ∙ done)), λ each. c.both-all.ensures.done ∙ more.1 each);
    }

pub returns-clause-pass : goal.returns-clause-pass
returns-clause-pass g c = all_stepped g.D.Driven.Turned c.loop-i.i c.args.machines.now c.loop-i.machines (omega (arith, c.loop-i-test.false, c.loop-i.auto.machines)) c.loop-i.invariant.stepped

pub returns-clause-done : goal.returns-clause-done
returns-clause-done g c = (
  λ done place x at. c.loop-i.invariant.ended.0 done place x at (omega (arith, slice_get_within c.loop-i.machines place x at, c.loop-i-test.false, c.loop-i.auto.machines)),
  λ each. c.loop-i.invariant.ended.1 (λ place x at _. each place x at),
)
