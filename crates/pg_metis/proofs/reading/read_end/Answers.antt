use Rattle.std.proofs.Common.{◌≡◌, ◌∷◌, [], ◌∙◌, ap, arith, true, false, IfSome, Some}
use Rattle.std.proofs.lemmas.Result.{err_from_is_err_and}
use Rattle.pg_metis.specs.Content.{NumberedLine}
use Rattle.pg_metis.specs.Ahead.{content_ahead, IsPastLimit, Passes}
use Rattle.pg_metis.specs.Fault.{extra_fault}
use Rattle.pg_metis.specs.Reading.{blank_fault}
use Rattle.pg_metis.proofs.ReadingLemmas.{past-blank, blank-on, blank-refused, none-blank, takes-at}
use Rattle.pg_metis.proofs.RefusalLemmas.{too_long-passed}
use Rattle.pg_metis.proofs.ToldLemmas.{told-if, told-on, told-then}
use Rattle.pg_metis.proofs.reading.read_end.Goals as goal

pub returns-in_err-next_content-clause-refused : goal.returns-in_err-next_content-clause-refused
returns-in_err-next_content-clause-refused g c =
    let p = err_from_is_err_and c.from_residual.result c.from_residual.ensures.1 in
    let a = content_ahead c.args.reader.now (g.I.Inputs.left c.args.inputs.now) in
    let b = content_ahead c.loop-reader.reader (g.I.Inputs.left c.loop-reader.inputs) in
    rw (p.1, p.2) (too_long-passed c.in_err-next_content.field-0.0 (λ line. IfSome b (IsPastLimit line)) (λ fault. IfSome a (λ was. blank_fault was ≡ Some fault))
    (λ line past. told-if a b (λ was now. blank_fault was ≡ blank_fault now) (IsPastLimit line) _ c.loop-reader.invariant.same past (λ was now same over. same ∙ past-blank line now over)) c.in_err-next_content.ensures.too_long)

pub returns-in_err-blank_at-clause-refused : goal.returns-in_err-blank_at-clause-refused
returns-in_err-blank_at-clause-refused g c =
    let p = err_from_is_err_and c.from_residual-in_err-blank_at.result c.from_residual-in_err-blank_at.ensures.1 in
    let new = c.next_content.new.reader in
    let line : NumberedLine = record { number = new.lines; bytes = new.line.items } in
    let (at, kind, some) = c.in_err-blank_at.ensures.refused in
    rw (p.1, p.2) (told-if _ _ (λ was now. blank_fault was ≡ blank_fault now) _ _ c.loop-reader.invariant.same
    (told-then _ _ _ _ (takes-at c.in_ok-next_content.field-0 true new.lines new.line.items _ _ c.if-branch.true c.in_ok-next_content.ensures.ok)
    (λ was now passes. blank-refused line was now c.in_err-blank_at.field-0.0 passes some at kind))
    (λ was now same is. same ∙ is))

pub loop-reader-smaller : goal.loop-reader-smaller
loop-reader-smaller g c =
    let more = c.in_ok-next_content.ensures.lines c.if-branch.true in
    let few = c.next_content.new.reader.few in
    omega arith

pub loop-reader-preserved : goal.loop-reader-preserved
loop-reader-preserved g c =
    let inv = c.loop-reader.invariant in
    let new = c.next_content.new.reader in
    let line : NumberedLine = record { number = new.lines; bytes = new.line.items } in
    let fine = ap extra_fault c.in_ok-blank_at.ensures.ok in
    record {
      later = omega (arith, inv.later, c.next_content.ensures.later);
      begun = cc (c.next_content.ensures.begun, inv.begun);
      files = cc (c.next_content.ensures.files, inv.files);
      same = told-on _ _ _ (λ was now. blank_fault was ≡ blank_fault now) (Passes (line ∷ [])) _ inv.same
          (takes-at c.in_ok-next_content.field-0 true new.lines new.line.items _ _ c.if-branch.true c.in_ok-next_content.ensures.ok)
          (λ was mid now before passes. before ∙ blank-on line mid now passes fine);
    }

pub returns-clause-ok : goal.returns-clause-ok
returns-clause-ok g c =
    let new = c.next_content.new.reader in
    told-if _ _ (λ was now. blank_fault was ≡ blank_fault now) _ _ c.loop-reader.invariant.same
    (told-then _ _ _ _ (takes-at c.in_ok-next_content.field-0 false new.lines new.line.items _ _ c.if-branch.false c.in_ok-next_content.ensures.ok) (λ was now takes. none-blank new.lines new.line.items was now takes))
    (λ was now same fine. same ∙ fine)
