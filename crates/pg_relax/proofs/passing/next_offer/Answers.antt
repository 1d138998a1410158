use Rattle.std.proofs.Common.{◌∙◌, ◌≡◌, ◌≤◌, ◌<◌, ℕ, List, length, sym, subst, ap, arith}
use Rattle.std.specs.Prelude.{slice_index_or}
use Rattle.std.proofs.lemmas.List.{get_or_default}
use Rattle.pg_adj.specs.declared.arcs.Arc.{Arc}
use Rattle.pg_relax.specs.Passing.{from_arc}
use Rattle.pg_relax.proofs.ArcLemmas.{no_arc}
use Rattle.pg_relax.proofs.PassLemmas.{IsNext, one_more, no_more}
use Rattle.pg_relax.specs.States.{label_of, row}
use Rattle.pg_relax.proofs.passing.next_offer.Goals as goal

pub loop-next-preserved : goal.loop-next-preserved
loop-next-preserved g c =
    let inv = c.loop-next.invariant in
    let said = c.in_default.ensures in
    let arcs : List Arc = c.arcs-arcs.result.now in
    let k : ℕ = c.loop-next.next in
    let b : Arc = slice_index_or arcs k no_arc in
    let at : IsNext c.args.part.now (from_arc c.args.ahead k) b = record {
      place = c.requires.place;
      next = subst (λ (xs : List Arc). k < length xs) c.arcs-arcs.ensures.row c.loop-next-test.true;
      is = subst (λ (xs : List Arc). b ≡ slice_index_or xs k b) c.arcs-arcs.ensures.row (sym (get_or_default arcs k b no_arc c.loop-next-test.true));
      own = c.arcs-arcs.ensures.own k no_arc c.loop-next-test.true;
    } in
    record {
      reached = omega (arith, inv.reached);
      each = said.same_count ∙ inv.each;
      takes = λ share w. said.same_takes share w ∙ inv.takes share w;
      kept = one_more (label_of (g.L.Label.start c.args.label.now) (g.L.Label.add c.args.label.now)) c.args.part.now c.args.offered.now
          (g.A.Agenda.takes c.args.frontier.now.agenda) c.args.frontier.now.table.values.items (g.A.Agenda.pending c.args.frontier.now.agenda) c.args.ahead
          (g.A.Agenda.takes c.loop-next.frontier.agenda) c.loop-next.frontier.table.values.items (g.A.Agenda.pending c.loop-next.frontier.agenda) k
          (g.A.Agenda.takes c.pass.new.frontier.agenda) c.pass.new.frontier.table.values.items (g.A.Agenda.pending c.pass.new.frontier.agenda) b
          at inv.each said.same_takes said.passed inv.kept;
      stays = λ e. absurd (omega (arith, inv.reached, e));
    }

pub returns-clause-all : goal.returns-clause-all
returns-clause-all g c =
    let past : length (row c.args.part.now c.args.ahead.place) ≤ c.loop-next.next = omega (arith, c.loop-next-test.false, ap length c.arcs-arcs.ensures.row) in
    no_more (label_of (g.L.Label.start c.args.label.now) (g.L.Label.add c.args.label.now)) c.args.part.now c.args.offered.now
    (g.A.Agenda.takes c.args.frontier.now.agenda) c.args.frontier.now.table.values.items (g.A.Agenda.pending c.args.frontier.now.agenda) c.args.ahead
    (g.A.Agenda.takes c.loop-next.frontier.agenda) c.loop-next.frontier.table.values.items (g.A.Agenda.pending c.loop-next.frontier.agenda) c.loop-next.next
    past c.loop-next.invariant.kept
