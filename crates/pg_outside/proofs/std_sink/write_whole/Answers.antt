use Rattle.std.proofs.Common.{◌≡◌, length, drop, refl, arith}
use Rattle.std.proofs.lemmas.List.{nil_from_length}
use Rattle.std.proofs.lemmas.Bool.Decides.{nat_tests}
use Rattle.pg_outside.proofs.Writes.{starts, goes_on, ends, gives_up, keeps_up}
use Rattle.pg_outside.proofs.std_sink.write_whole.Goals as goal

pub loop-rest-init : goal.loop-rest-init
loop-rest-init g c = starts _ _

pub loop-rest-preserved : goal.loop-rest-preserved
loop-rest-preserved g c =
    goes_on _ _ _ _ c.loop-rest.rest.now _ c.in-Ok.count c.loop-rest.invariant c.in-Ok.ensures.bytes c.split_at.ensures.back

pub returns-in-Ok-eq0-clause-err : goal.returns-in-Ok-eq0-clause-err
returns-in-Ok-eq0-clause-err g c =
    gives_up _ _ _ (drop c.in-Ok-eq0.field-0 c.loop-rest.rest.now)
    (goes_on _ _ _ _ c.loop-rest.rest.now _ c.in-Ok-eq0.field-0 c.loop-rest.invariant c.in-Ok-eq0.ensures.bytes refl)

pub returns-in-Err-clause-err : goal.returns-in-Err-clause-err
returns-in-Err-clause-err g c =
    gives_up _ _ _ c.loop-rest.rest.now (keeps_up _ _ _ _ _ c.loop-rest.invariant c.in-Err.ensures.bytes)

pub returns-clause-ok : goal.returns-clause-ok
returns-clause-ok g c =
    let none : length c.loop-rest.rest.now ≡ 0 = grind (arith, nat_tests) in
    ends _ _ _ c.loop-rest.rest.now c.loop-rest.invariant (nil_from_length c.loop-rest.rest.now none)
