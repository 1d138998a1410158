use Rattle.pg_relax.proofs.StepLemmas.{taken_up}
use Rattle.pg_relax.proofs.working.take_up.Goals as goal

pub returns-clause-kept : goal.returns-clause-kept
returns-clause-kept g c =
    let said = c.in_ok-place.ensures in
    taken_up c.args.part.now (g.A.Agenda.takes c.args.frontier.now.agenda) (g.A.Agenda.takes c.pop.new.self) c.args.frontier.now.table.values.items
    (g.A.Agenda.pending c.args.frontier.now.agenda) (g.A.Agenda.pending c.pop.new.self) c.in_ok-place.place c.in_ok-place.share c.if_left.result
    (record { heavy = said.heavy; shares = said.shares; others = said.others; whole = said.whole; halves = said.halves })
    said.same_takes c.if_left.ensures.some c.if_left.ensures.none
