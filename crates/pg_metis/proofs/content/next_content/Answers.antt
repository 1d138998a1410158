use Rattle.std.proofs.Common.{◌≡◌, ◌∙◌, sym, ap, subst, arith, true, false, IfSome}
use Rattle.std.proofs.lemmas.Result.{err_from_is_err_and}
use Rattle.pg_text.specs.Text.{is_comment}
use Rattle.pg_metis.specs.Content.{Content}
use Rattle.pg_metis.specs.Ahead.{content_ahead, IsPastLimit, TakesContent}
use Rattle.pg_metis.proofs.AheadContent.{took-comment, took-line, took-none, took-overlong, where-told}
use Rattle.pg_metis.proofs.RefusalLemmas.{too_long-weaker}
use Rattle.pg_metis.proofs.ToldLemmas.{told-on, told-if}
use Rattle.pg_metis.proofs.content.next_content.Goals as goal

pub returns-in_err-next-clause-too_long : goal.returns-in_err-next-clause-too_long
returns-in_err-next-clause-too_long g c =
    let p = err_from_is_err_and c.from_residual.result c.from_residual.ensures.1 in
    let cur = c.loop-reader.reader in
    let left = g.I.Inputs.left c.loop-reader.inputs in
    let start = content_ahead c.args.reader.now (g.I.Inputs.left c.args.inputs.now) in
    rw (p.1, p.2) (too_long-weaker c.in_err-next.field-0.0 _ (λ line. IfSome start (IsPastLimit line))
    (λ line over. told-if start (content_ahead cur left) (λ was now. was ≡ now) _ _ c.loop-reader.invariant.same (took-overlong cur left line over) (λ was now same past. subst (IsPastLimit _) (sym same) past))
    c.in_err-next.ensures.too_long)

pub returns-then-not-is_comment-clause-ok : goal.returns-then-not-is_comment-clause-ok
returns-then-not-is_comment-clause-ok g c =
    let cur = c.loop-reader.reader in
    let new = c.next.new.self in
    let plain = ap is_comment (sym c.line.ensures) ∙ sym c.if-not-is_comment.ensures in
    told-on _ _ _ (λ was now. was ≡ now) (TakesContent true new.lines new.line.items) _ c.loop-reader.invariant.same
    (took-line cur new _ _ c.in_ok-next.field-0 new.line.items c.if-branch.true c.in_ok-next.ensures.lines plain c.in_ok-next.ensures.ok)
    (λ was mid now same takes. subst (λ (x : Content). TakesContent true new.lines new.line.items x now) (sym same) takes)

pub loop-reader-preserved : goal.loop-reader-preserved
loop-reader-preserved g c =
    let cur = c.loop-reader.reader in
    let new = c.next.new.self in
    let comment = ap is_comment (sym c.line.ensures) ∙ sym c.if-not-is_comment.ensures in
    let inv = c.loop-reader.invariant in
    record {
      later = omega (arith, inv.later, c.next.ensures.later);
      begun = cc (c.next.ensures.begun, inv.begun);
      files = cc (c.next.ensures.files, inv.files);
      lines = omega (arith, inv.lines, rw c.if-branch.true at c.in_ok-next.ensures.lines);
      same = told-on _ _ _ (λ was now. was ≡ now) (λ was now. was ≡ now) _ inv.same
          (took-comment cur new _ _ c.in_ok-next.field-0 new.line.items c.if-branch.true c.in_ok-next.ensures.lines comment c.in_ok-next.ensures.ok)
          (λ was mid now same still. same ∙ still);
    }

pub returns-clause-ok : goal.returns-clause-ok
returns-clause-ok g c =
    let cur = c.loop-reader.reader in
    let new = c.next.new.self in
    told-on _ _ _ (λ was now. was ≡ now) (TakesContent false new.lines new.line.items) _ c.loop-reader.invariant.same
    (took-none cur new _ _ c.in_ok-next.field-0 new.line.items c.if-branch.false c.in_ok-next.ensures.lines c.in_ok-next.ensures.ok)
    (λ was mid now same takes. subst (λ (x : Content). TakesContent false new.lines new.line.items x now) (sym same) takes)

pub returns-clause-end : goal.returns-clause-end
returns-clause-end g c = λ none.
    told-if _ _ (λ was now. was ≡ now) _ _ c.loop-reader.invariant.same
    (where-told c.loop-reader.reader _ _ (c.in_ok-next.ensures.end c.if-branch.false)) (λ was now same end. end)
