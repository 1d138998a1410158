use Rattle.std.proofs.Common.{◌∙◌}
use Rattle.std.proofs.lemmas.Result.{err_from_is_err_and}
use Rattle.pg_metis.specs.Headers.{format_in}
use Rattle.pg_metis.proofs.HeaderLemmas.{fault-first, fault-second, fault-last, header-told}
use Rattle.pg_metis.proofs.headers.Header.of_line.Goals as goal

pub returns-in_err-n-clause-refused : goal.returns-in_err-n-clause-refused
returns-in_err-n-clause-refused c =
    let p = err_from_is_err_and c.from_residual.result c.from_residual.ensures.1 in
    rw (p.1, p.2) (fault-first _ _ _ _ _ _ c.in-Some.ensures.some c.in_err-n.ensures.refused)

pub returns-in_err-m-clause-refused : goal.returns-in_err-m-clause-refused
returns-in_err-m-clause-refused c =
    let p = err_from_is_err_and c.from_residual-in_err-m.result c.from_residual-in_err-m.ensures.1 in
    rw (p.1, p.2) (fault-second _ _ _ _ _ _ c.in-Some.ensures.some c.in_ok-n.ensures.faultless c.in_err-m.ensures.refused)

pub returns-in_err-format-clause-refused : goal.returns-in_err-format-clause-refused
returns-in_err-format-clause-refused c =
    let p = err_from_is_err_and c.from_residual-in_err-format.result c.from_residual-in_err-format.ensures.1 in
    rw (p.1, p.2) (fault-last _ _ _ _ _ c.in-Some.ensures.some c.in_ok-n.ensures.faultless c.in_ok-m.ensures.faultless ∙ c.in_err-format.ensures.refused)

pub returns-clause-ok : goal.returns-clause-ok
returns-clause-ok c = header-told _ _ _ _ _ c.in_ok-n.n c.in_ok-m.m (format_in c.in_ok-format.format) c.in-Some.ensures.some c.in_ok-n.ensures.ok c.in_ok-m.ensures.ok c.in_ok-format.ensures.ok

pub returns-clause-faultless : goal.returns-clause-faultless
returns-clause-faultless c = fault-last _ _ _ _ _ c.in-Some.ensures.some c.in_ok-n.ensures.faultless c.in_ok-m.ensures.faultless ∙ c.in_ok-format.ensures.faultless
