use Rattle.std.proofs.Common.{arith, ◌≡◌, ◌+◌, ◌∙◌}
use Rattle.std.proofs.lemmas.Result.{err_from_is_err_and}
use Rattle.pg_text.specs.Coming.{held}
use Rattle.pg_text.specs.Cuts.{IsOverlong}
use Rattle.pg_text.proofs.ReaderLemmas.{too_long-passed, fills-newline, fills-more, fills-last, overlong}
use Rattle.pg_text.proofs.readers.LineReader.fill_line.Goals as goal

pub returns-in_err-take_part-clause-too_long : goal.returns-in_err-take_part-clause-too_long
returns-in_err-take_part-clause-too_long g c =
    let p = err_from_is_err_and c.from_residual.result c.from_residual.ensures.1 in
    let cur = c.loop-self.self in
    let inv = c.loop-self.invariant in
    rw (p.1, p.2) (too_long-passed c.in_err-take_part.field-0.0 (λ line. (line ≡ cur.lines + 1) × IsOverlong cur.room (held cur)) _ (λ line h. (omega (arith, h.0, inv.lines), overlong _ cur _ (g.I.Inputs.left c.loop-self.inputs) inv.so_far h.1)) c.in_err-take_part.ensures.too_long)

pub returns-then-not-branch-2-clause-ok : goal.returns-then-not-branch-2-clause-ok
returns-then-not-branch-2-clause-ok g c =
    let inv = c.loop-self.invariant in
    let now = c.refill.ensures in
    let so_far = fills-more _ c.loop-self.self c.take_part.new.self c.refill.new.self _ (g.I.Inputs.left c.loop-self.inputs) (g.I.Inputs.left c.refill.new.inputs) _ c.if-not-branch.true c.in_ok-take_part.ensures.ok inv.so_far c.in_ok-refill.ensures.same now.line now.room in
    fills-last _ c.refill.new.self _ (g.I.Inputs.left c.refill.new.inputs) _ so_far c.if-not-branch-2.true c.in_ok-refill.ensures.more

pub loop-self-preserved : goal.loop-self-preserved
loop-self-preserved g c =
    let inv = c.loop-self.invariant in
    let now = c.refill.ensures in
    record {
      later = omega (arith, inv.later, now.later);
      begun = now.begun ∙ inv.begun;
      files = now.files ∙ inv.files;
      lines = now.lines ∙ c.take_part.ensures.lines ∙ inv.lines;
      so_far = fills-more _ c.loop-self.self c.take_part.new.self c.refill.new.self _ (g.I.Inputs.left c.loop-self.inputs) (g.I.Inputs.left c.refill.new.inputs) _ c.if-not-branch.true c.in_ok-take_part.ensures.ok inv.so_far c.in_ok-refill.ensures.same now.line now.room;
    }

pub returns-clause-ok : goal.returns-clause-ok
returns-clause-ok g c = fills-newline _ c.loop-self.self c.take_part.new.self _ (g.I.Inputs.left c.loop-self.inputs) _ c.if-not-branch.false c.in_ok-take_part.ensures.ok c.loop-self.invariant.so_far
