use Rattle.std.proofs.Common.{arith, ◌≡◌, ◌+◌, ◌<◌, ◌⊎◌, inl, inr, true, false, length, vec_len, IfSome}
use Rattle.std.proofs.lemmas.Result.{err_from_is_err_and}
use Rattle.pg_text.specs.Coming.{bytes_ahead, coming}
use Rattle.pg_text.specs.Cuts.{IsOverlong}
use Rattle.pg_text.proofs.ReaderLemmas.{too_long-passed, told-line, told-none, told-was, told-now, told-overlong, read-to_end, some_bytes, no_bytes}
use Rattle.pg_text.proofs.readers.LineReader.next.Goals as goal
use Rattle.pg_text.proofs.readers.LineReader.next.Goals.{then-ended, else-ended}

pub returns-in_err-ended-clause-too_long : goal.returns-in_err-ended-clause-too_long
unfolding coming
returns-in_err-ended-clause-too_long g c =
    let p = err_from_is_err_and c.from_residual.result c.from_residual.ensures.1 in
    let old = c.args.self.now in
    let left = g.I.Inputs.left c.args.inputs.now in
    rw (p.1, p.2) (too_long-passed c.in_err-ended.field-0.0 (λ line. (line ≡ old.lines + 1) × IfSome (bytes_ahead old left) (IsOverlong old.room)) _ (λ line h. told-overlong old.room old.lines line (bytes_ahead old left) h) c.in_err-ended.ensures.too_long)

pub returns-then-more-clause-ok : goal.returns-then-more-clause-ok
unfolding coming
returns-then-more-clause-ok g c =
    let new = c.fill_line.new.self in
    let some : (c.in_ok-ended.ended ≡ true) ⊎ (0 < length new.line.items) = elim c.if-ended.branch [ then-ended w ↦ inl w.if-ended.true | else-ended w ↦ inr (some_bytes c.if-ended.more w.is_empty.result (vec_len new.line) _ c.if-more.true w.more-is w.is_empty.ensures (omega (arith, new.line.ok.0))) ] in
    rw c.if-more.true (told-line c.args.self.now.room new _ _ c.in_ok-ended.ended c.in_ok-ended.ensures.ok some)

pub returns-else-more-clause-ok : goal.returns-else-more-clause-ok
unfolding coming
returns-else-more-clause-ok g c =
    let new = c.fill_line.new.self in
    let none : (c.in_ok-ended.ended ≡ false) × (length new.line.items ≡ 0) = elim c.if-ended.branch [ then-ended w ↦ cc | else-ended w ↦ (w.if-ended.false, no_bytes c.if-ended.more w.is_empty.result (vec_len new.line) _ c.if-more.false w.more-is w.is_empty.ensures (omega (arith, new.line.ok.0))) ] in
    rw c.if-more.false (told-was new.line.items _ _ (told-none c.args.self.now.room new _ _ c.in_ok-ended.ended c.in_ok-ended.ensures.ok none.0 none.1))

pub returns-else-more-clause-stays : goal.returns-else-more-clause-stays
unfolding coming
returns-else-more-clause-stays g c = λ _.
    let new = c.fill_line.new.self in
    let none : (c.in_ok-ended.ended ≡ false) × (length new.line.items ≡ 0) = elim c.if-ended.branch [ then-ended w ↦ cc | else-ended w ↦ (w.if-ended.false, no_bytes c.if-ended.more w.is_empty.result (vec_len new.line) _ c.if-more.false w.more-is w.is_empty.ensures (omega (arith, new.line.ok.0))) ] in
    told-now _ _ (told-none c.args.self.now.room new _ _ c.in_ok-ended.ended c.in_ok-ended.ensures.ok none.0 none.1)

pub returns-else-more-clause-end : goal.returns-else-more-clause-end
unfolding coming
returns-else-more-clause-end g c = λ _.
    let none : c.in_ok-ended.ended ≡ false = elim c.if-ended.branch [ then-ended w ↦ cc | else-ended w ↦ w.if-ended.false ] in
    read-to_end c.args.self.now.room c.fill_line.new.self _ (g.I.Inputs.left c.fill_line.new.inputs) c.in_ok-ended.ended c.in_ok-ended.ensures.ok none
