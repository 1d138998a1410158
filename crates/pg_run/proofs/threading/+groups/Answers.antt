use Rattle.std.proofs.Common.{rules}
use Rattle.pg_run.specs.Repeated.{RepeatedToEnd, AllStepped}
use Rattle.pg_run.proofs.Passes.{parts_stepped}
use Rattle.pg_run.proofs.threading.+groups.Goals as goal

pub returns : goal.returns
returns g t c =
    let parts = c.split_at_mut-front.result in
    let front : AllStepped (RepeatedToEnd g.D.Driven.Turned g.D.Driven.ended 100000) parts.0.now c.front-1.given.0 = search rules in
    let back : AllStepped (RepeatedToEnd g.D.Driven.Turned g.D.Driven.ended 100000) parts.1.now c.back-1.given.0 = search rules in
    parts_stepped (RepeatedToEnd g.D.Driven.Turned g.D.Driven.ended 100000) parts.0.now c.front-1.given.0 parts.1.now c.back-1.given.0 c.args.machines.now c.split_at_mut-front.ensures.value front back
