use Rattle.std.proofs.Common.{◌∙◌, subst, sym, ap, arith}
use Rattle.pg_relax.specs.Kept.{IsOpenBelow}
use Rattle.pg_relax.specs.States.{label_of}
use Rattle.pg_relax.proofs.OpeningLemmas.{opened_next}
use Rattle.pg_relax.proofs.opening.open.Goals as goal

pub loop-place-preserved : goal.loop-place-preserved
loop-place-preserved g c =
    let label = label_of (g.L.Label.start c.args.label.now) (g.L.Label.add c.args.label.now) in
    let inv = c.loop-place.invariant in
    let said = c.open_place.ensures in
    record {
      each = said.same_count ∙ inv.each;
      opening = opened_next label c.args.part.now c.loop-place.place c.loop-place.frontier.table.values.items c.open_place.new.frontier.table.values.items
          (g.A.Agenda.pending c.loop-place.frontier.agenda) (g.A.Agenda.pending c.open_place.new.frontier.agenda)
          (omega (arith, c.loop-place-test.true, c.count-count.ensures.value, inv.each))
          (λ class some. said.started class (ap (g.L.Label.start c.args.label.now) c.vertex.ensures.value ∙ some))
          (λ none o. subst (λ f. IsOpenBelow c.loop-place.place label c.args.part.now f.table.values.items (g.A.Agenda.pending f.agenda)) (sym (said.stays (ap (g.L.Label.start c.args.label.now) c.vertex.ensures.value ∙ none))) o)
          inv.opening;
      takes = λ share w. said.same_takes share w ∙ inv.takes share w;
    }
