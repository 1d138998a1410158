use Rattle.std.proofs.Common.{◌≡◌, ◌∙◌, ◌+◌, ◌<◌, ap, arith, length, sym}
use Rattle.pg_top.proofs.TallyLemmas.{lowest_all, lowest_below, lowest_more, lowest_same}
use Rattle.pg_top.proofs.tallying.components.Goals.{then-number_in-place, else-number_in-place}
use Rattle.pg_top.proofs.tallying.components.Goals as goal

pub loop-place-preserved : goal.loop-place-preserved
loop-place-preserved c =
    let roots = c.args.roots.now in
    let i = c.loop-place.place in
    let within : i < length roots = omega (arith, c.loop-place-test.true) in
    let kept = c.loop-place.invariant in
    elim c.if-number_in-place.branch [
      | then-number_in-place w ↦ record {
        counted = w.count-is ∙ (ap (λ n. n + 1) kept.counted ∙ sym (lowest_more roots i within c.number_in.result _ c.number_in.ensures (w.if-number_in-place.true)));
        few = omega (arith, w.count-is, kept.few);
      }
      | else-number_in-place w ↦ record {
        counted = w.count-is ∙ (kept.counted ∙ sym (lowest_same roots i within c.number_in.result _ c.number_in.ensures (w.if-number_in-place.false)));
        few = omega (arith, w.count-is, kept.few);
      }
    ]

pub returns : goal.returns
returns c =
    let ended : c.loop-place.place ≡ length c.args.roots.now = omega (arith, c.loop-place-test.false, c.loop-place.auto.place-end) in
    c.loop-place.invariant.counted ∙ (ap (lowest_below c.args.roots.now) ended ∙ lowest_all c.args.roots.now)
