use Rattle.std.proofs.Common.{◌≡◌, ◌+◌, ◌-◌, ℕ, drop, suc, Some, subst, arith}
use Rattle.std.specs.List.{slice_get}
use Rattle.std.proofs.lemmas.Result.{err_from_is_err_and}
use Rattle.pg_print.specs.Columns.{answer_line, column_text}
use Rattle.pg_print.proofs.Writing.{Appends-more, AppendsFront-more, flat_map-cut, flat_map-more}
use Rattle.pg_print.proofs.columns.print_column.Goals as goal

pub loop-place-preserved : goal.loop-place-preserved
loop-place-preserved g c =
    let column = g.C.Column.answers c.args.column.now in
    let i = c.loop-place.place in
    let same : (i + 1) - 1 ≡ i = omega arith in
    let at : slice_get column i ≡ Some c.at.result = subst (λ (k : ℕ). slice_get column k ≡ Some c.at.result) same c.at.ensures in
    record {
      later = omega arith;
      written = rw (flat_map-more answer_line column i c.at.result at) (Appends-more _ _ _ _ _ c.loop-place.invariant.written c.in_ok-print_answer.ensures.ok);
    }

pub returns-in_err-print_answer-clause-err : goal.returns-in_err-print_answer-clause-err
returns-in_err-print_answer-clause-err g c =
    let column = g.C.Column.answers c.args.column.now in
    let i = c.loop-place.place in
    let same : (i + 1) - 1 ≡ i = omega arith in
    let at : slice_get column i ≡ Some c.at.result = subst (λ (k : ℕ). slice_get column k ≡ Some c.at.result) same c.at.ensures in
    let p = err_from_is_err_and c.from_residual.result c.from_residual.ensures.1 in
    rw p.1 (rw (flat_map-cut answer_line column i c.at.result at) (AppendsFront-more _ _ _ _ _ (column_text (drop (suc i) column)) c.loop-place.invariant.written c.in_err-print_answer.ensures.err))
