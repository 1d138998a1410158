use Rattle.std.proofs.Common.{◌≡◌, ◌<◌, ◌-◌, ◌≤◌, All, List, ℕ, Some, IfSome, arith, sym, subst}
use Rattle.std.proofs.lemmas.List.Elements.{All-push}
use Rattle.std.proofs.lemmas.Result.{err_from_is_err_and}
use Rattle.pg_metis.specs.Ahead.{content_ahead}
use Rattle.pg_metis.specs.Parts.{parts_content_fault}
use Rattle.pg_metis.specs.PartsReading.{TakesParts}
use Rattle.pg_metis.proofs.PartsReadingLemmas.{rest-fault, takes-more}
use Rattle.pg_metis.proofs.PartsRefusals.{parts-refused-passed}
use Rattle.pg_metis.proofs.ToldLemmas.{if_some-weaker}
use Rattle.pg_metis.proofs.parts_files.read_lines.Goals as goal

pub returns-in_err-part-clause-refused : goal.returns-in_err-part-clause-refused
returns-in_err-part-clause-refused g c =
    let p = err_from_is_err_and c.from_residual-in_err-part.result c.from_residual-in_err-part.ensures.1 in
    let ranks = c.args.ranks in
    let n = c.args.n in
    let parts = c.loop-place.parts in
    let place = c.loop-place._place in
    let inv = c.loop-place.invariant in
    let a = content_ahead c.args.reader.now (g.I.Inputs.left c.args.inputs.now) in
    let b = content_ahead c.loop-place.reader (g.I.Inputs.left c.loop-place.inputs) in
    rw (p.1, p.2) (parts-refused-passed c.in_err-part.field-0.0 (λ fault. IfSome b (λ was. (wanted : ℕ) → 1 ≤ wanted → parts_content_fault wanted ranks was ≡ Some fault)) (λ fault. IfSome a (λ was. parts_content_fault n ranks was ≡ Some fault))
    (λ fault bad. rest-fault ranks n (n - place) parts.items a b (Some fault) (omega (arith, inv.count, parts.ok.0, c.loop-place-test.true)) inv.taken inv.below
    (if_some-weaker b _ _ bad (λ was is. is (n - place) (omega (arith, c.loop-place-test.true)))))
    c.in_err-part.ensures.refused)

pub loop-place-preserved : goal.loop-place-preserved
loop-place-preserved g c =
    let inv = c.loop-place.invariant in
    let parts = c.loop-place.parts in
    let part = c.in_ok-part.part in
    let items = sym {A = List ℕ} c.push_reserved.ensures.items in
    record {
      later = omega (arith, inv.later, c.read_line.ensures.later);
      begun = cc (c.read_line.ensures.begun, inv.begun);
      files = cc (c.read_line.ensures.files, inv.files);
      room = omega (arith, inv.room, c.push_reserved.ensures.capacity);
      count = omega (arith, inv.count, c.push_reserved.ensures.len);
      below = subst (λ (l : List ℕ). All (λ part. part < c.args.ranks) l) items (All-push (λ part. part < c.args.ranks) parts.items part inv.below c.in_ok-part.ensures.below);
      taken = subst (λ (l : List ℕ). TakesParts l (content_ahead c.args.reader.now (g.I.Inputs.left c.args.inputs.now)) (content_ahead c.read_line.new.reader (g.I.Inputs.left c.read_line.new.inputs))) items
          (takes-more parts.items part _ _ _ inv.taken c.in_ok-part.ensures.ok);
    }
