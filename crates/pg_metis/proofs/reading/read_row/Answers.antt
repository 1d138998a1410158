use Rattle.std.proofs.Common.{◌≡◌, ◌∙◌, sym, ap, subst, ◌++◌, ◌∷◌, [], true, IfSome, arith, length, All, ◌+◌, ◌<◌, List, ℕ, Vec, Global}
use Rattle.std.specs.Vec.{with_items}
use Rattle.std.proofs.lemmas.List.{with_items_is}
use Rattle.std.proofs.lemmas.Result.{err_from_is_err_and}
use Rattle.pg_metis.specs.Headers.{header_in}
use Rattle.pg_metis.specs.Ahead.{content_ahead, IsPastLimit}
use Rattle.pg_metis.proofs.ReadingLemmas.{past-body, row-refused, takes-at}
use Rattle.pg_metis.proofs.RefusalLemmas.{too_long-passed}
use Rattle.pg_metis.proofs.ToldLemmas.{if_some-weaker, told-then}
use Rattle.pg_metis.proofs.reading.read_row.Goals as goal

pub returns-in_err-more-clause-refused : goal.returns-in_err-more-clause-refused
returns-in_err-more-clause-refused g c =
    let p = err_from_is_err_and c.from_residual.result c.from_residual.ensures.1 in
    let start = content_ahead c.args.reader.now (g.I.Inputs.left c.args.inputs.now) in
    rw (p.1, p.2) (too_long-passed c.in_err-more.field-0.0 (λ line. IfSome start (IsPastLimit line)) _ (λ line past. if_some-weaker start (IsPastLimit line) _ past (past-body (header_in c.args.header) c.args.vertex line)) c.in_err-more.ensures.too_long)

pub returns-in_err-line-clause-refused : goal.returns-in_err-line-clause-refused
returns-in_err-line-clause-refused g c =
    let p = err_from_is_err_and c.from_residual-in_err-line.result c.from_residual-in_err-line.ensures.1 in
    let new = c.next_content.new.reader in
    rw (p.1, p.2) (told-then _ _ _ _ c.in_ok-more.ensures.ok
    (λ was now takes. row-refused (header_in c.args.header) c.args.vertex c.in_ok-more.more new.lines new.line.items was now c.in_err-line.field-0.0 c.requires.last takes c.in_err-line.ensures.refused))

kept-length : (v : Vec ℕ Global) (ws : List ℕ) → length ws ≡ v.len → length (with_items v ws).items ≡ length v.items
kept-length v ws kept = ap length (with_items_is v ws kept) ∙ kept ∙ v.ok.0

pushed-as : (old new : List ℕ) (number line : ℕ) → new ≡ old ++ number ∷ [] → number ≡ line → new ≡ old ++ line ∷ []
pushed-as old new number line pushed same = pushed ∙ ap (λ x. old ++ x ∷ []) same

pub returns-clause-ok : goal.returns-clause-ok
returns-clause-ok g c =
    let new = c.next_content.new.reader in
    let v = c.args.vertex in
    let old = c.args.rows.now in
    let told = c.in_ok-line.ensures in
    let kept : length c.row_at.new.stamps ≡ old.stamps.len = omega (arith, c.row_at.auto.stamps, c.deref_mut.ensures.len) in
    let same = with_items_is old.stamps c.row_at.new.stamps kept in
    record {
      line = record { number = new.lines; bytes = new.line.items };
      told = takes-at c.in_ok-more.more true new.lines new.line.items _ _ told.some c.in_ok-more.ensures.ok;
      faultless = told.faultless;
      arcs = told.arcs;
      numbers = pushed-as old.numbers.items _ _ _ c.in_ok-push.ensures.items told.line;
      size = kept-length old.stamps c.row_at.new.stamps kept;
      stamps = subst (λ stamps. All (λ stamp. stamp < v + 1) stamps) (sym same) told.stamps;
    }
