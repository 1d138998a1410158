use Rattle.std.proofs.lemmas.Result.{err_from_is_err_and}
use Rattle.pg_metis.proofs.RowLemmas.{skips-more, short-line, bad-number}
use Rattle.pg_metis.proofs.rows.skip_numbers.Goals as goal

pub returns-in_default-clause-refused : goal.returns-in_default-clause-refused
returns-in_default-clause-refused c =
    λ header v. short-line header v c.loop-place._place c.args.count _ _ c.loop-place.invariant.skipped c.in_default.ensures.steps.0 c.loop-place-test.true

pub returns-in_err-number_of-clause-refused : goal.returns-in_err-number_of-clause-refused
returns-in_err-number_of-clause-refused c =
    let p = err_from_is_err_and c.from_residual.result c.from_residual.ensures.1 in
    rw (p.1, p.2) (λ header v. bad-number header v c.loop-place._place c.args.count _ _ _ c.in-Some.passed.now _ c.loop-place.invariant.skipped c.in-Some.ensures.steps c.in_err-number_of.ensures.refused c.loop-place-test.true)

pub loop-place-preserved : goal.loop-place-preserved
loop-place-preserved c = record {
  skipped = skips-more c.loop-place._place _ _ _ c.in-Some.passed.now c.loop-place.invariant.skipped c.in-Some.ensures.steps c.in_ok-number_of.ensures.ok;
  goes = (tt, tt);
}
