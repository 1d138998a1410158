use Rattle.std.proofs.Common.{◌≡◌, ◌∙◌, ◌<◌, ℕ, List, Some, drop, suc, ap, sym, length, arith}
use Rattle.std.specs.List.{flat_map, slice_get}
use Rattle.std.proofs.lemmas.List.{length-map}
use Rattle.std.proofs.lemmas.Result.{err_from_is_err_and}
use Rattle.pg_print.specs.Summaries.{summary_lines}
use Rattle.pg_print.proofs.Writing.{Appends-more, AppendsFront-more, entry_of_map, flat_map-cut, flat_map-more}
use Rattle.pg_print.proofs.summaries.print_summary.Goals as goal

pub loop-line-preserved : goal.loop-line-preserved
loop-line-preserved g c =
    let lines : List (List ℕ) = summary_lines c.args.summary.now in
    let i = c.loop-line.line-index in
    let within : i < length c.lines_of.result = omega (arith, c.loop-line-test.true, length-map c.lines_of.result (λ line. line.bytes), ap length c.loop-line.invariant.same) in
    let at : slice_get lines i ≡ Some c.as_bytes.result.now = ap (λ l. slice_get l i) (sym c.loop-line.invariant.same)
    ∙ entry_of_map (λ line. line.bytes) c.lines_of.result i c.line-item.result within ∙ ap Some (sym (c.as_bytes.ensures.value ∙ c.as_str.ensures.value)) in
    record {
      same = c.loop-line.invariant.same;
      later = omega arith;
      written = rw (flat_map-more (λ line. line) lines i c.as_bytes.result.now at) (Appends-more _ _ _ _ _ c.loop-line.invariant.written c.in_ok-write_all.ensures.ok);
    }

pub returns-in_err-write_all-clause-err : goal.returns-in_err-write_all-clause-err
returns-in_err-write_all-clause-err g c =
    let lines : List (List ℕ) = summary_lines c.args.summary.now in
    let i = c.loop-line.line-index in
    let within : i < length c.lines_of.result = omega (arith, c.loop-line-test.true, length-map c.lines_of.result (λ line. line.bytes), ap length c.loop-line.invariant.same) in
    let at : slice_get lines i ≡ Some c.as_bytes.result.now = ap (λ l. slice_get l i) (sym c.loop-line.invariant.same)
    ∙ entry_of_map (λ line. line.bytes) c.lines_of.result i c.line-item.result within ∙ ap Some (sym (c.as_bytes.ensures.value ∙ c.as_str.ensures.value)) in
    let p = err_from_is_err_and c.from_residual.result c.from_residual.ensures.1 in
    rw p.1 (rw (flat_map-cut (λ line. line) lines i c.as_bytes.result.now at) (AppendsFront-more _ _ _ _ _ (flat_map (λ line. line) (drop (suc i) lines)) c.loop-line.invariant.written c.in_err-write_all.ensures.err))
