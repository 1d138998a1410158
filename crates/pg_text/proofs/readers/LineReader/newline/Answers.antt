use Rattle.std.proofs.Common.{ap, subst, slice_range}
use Rattle.pg_text.specs.Cuts.{IsNewlineAt}
use Rattle.pg_text.proofs.ReaderLemmas.{IsNewlineAt-first}
use Rattle.pg_text.proofs.readers.LineReader.newline.Goals as goal

pub returns : goal.returns
returns c =
    let e = c.deref.ensures.value in
    subst (λ bytes. IsNewlineAt bytes c.memchr.result) (ap (λ bytes. slice_range bytes c.args.self.now.start c.args.self.now.end) e) (IsNewlineAt-first _ _ c.memchr.ensures)
