use Rattle.std.proofs.Common.{refl}
use Rattle.pg_metis.proofs.NumberLemmas.{is-number}
use Rattle.pg_metis.proofs.HeaderLemmas.{format-told}
use Rattle.pg_metis.proofs.headers.Format.of_words.Goals as goal

pub returns-then-marks-clause-ok : goal.returns-then-marks-clause-ok
returns-then-marks-clause-ok c =
    let is = is-number c.args.ncon.now c.in_ok-ncon.ncon c.in_ok-ncon.ensures.ok c.in_ok-ncon.ensures.value in
    format-told c.args.digits.now c.args.ncon.now c.in-Some.marks c.in_ok-ncon.ncon c.max.result c.in-Some.ensures is (rw c.if-marks.true c.max.ensures)

pub returns-else-marks-clause-ok : goal.returns-else-marks-clause-ok
returns-else-marks-clause-ok c =
    let is = is-number c.args.ncon.now c.in_ok-ncon.ncon c.in_ok-ncon.ensures.ok c.in_ok-ncon.ensures.value in
    format-told c.args.digits.now c.args.ncon.now c.in-Some.marks c.in_ok-ncon.ncon 0 c.in-Some.ensures is (rw c.if-marks.false refl)
