use Rattle.std.proofs.Common.{◌∙◌, sym, subst, inr, arith}
use Rattle.pg_relax.specs.Offered.{AreOffered}
use Rattle.pg_relax.specs.States.{label_of}
use Rattle.pg_relax.proofs.StepLemmas.{sent_on}
use Rattle.pg_relax.proofs.OfferedLemmas.{noted_of, offered_noted}
use Rattle.pg_relax.proofs.working.go_on.Goals as goal

pub returns-in-Ok-clause-kept : goal.returns-in-Ok-clause-kept
returns-in-Ok-clause-kept g c =
    let said = c.in-UpTo.ensures in
    sent_on (label_of (g.L.Label.start c.args.label.now) (g.L.Label.add c.args.label.now)) c.args.part.now c.args.offered.now
    (g.A.Agenda.takes c.args.frontier.now.agenda) (g.A.Agenda.takes c.next_offer.new.frontier.agenda) c.args.frontier.now.table.values.items c.next_offer.new.frontier.table.values.items
    (g.A.Agenda.pending c.args.frontier.now.agenda) (g.A.Agenda.pending c.next_offer.new.frontier.agenda) c.args.ahead c.in-UpTo.next c.in-UpTo.to c.in-UpTo.offer c.if_left.result
    (g.O.Outbox.sent c.args.out.now) (g.O.Outbox.sent c.send.new.self) said.up_to c.requires.place (said.same_count ∙ c.requires.each) said.kept
    c.in-Ok.ensures.ok c.if_left.ensures.some c.if_left.ensures.none

pub returns-in-Ok-clause-offered : goal.returns-in-Ok-clause-offered
returns-in-Ok-clause-offered g c = λ long are.
    let up = c.in-UpTo.ensures.up_to in
    let noted = noted_of c.args.part.now c.in-UpTo.to.0 c.in-UpTo.offer c.args.offered.now c.note.new.self c.requires.covers c.note.ensures.changes c.note.ensures.known in
    subst (λ lists. AreOffered lists c.note.new.self) (sym c.in-Ok.ensures.ok)
    (offered_noted (g.O.Outbox.sent c.args.out.now) c.args.part.now c.args.offered.now c.note.new.self c.in-UpTo.to.0 c.in-UpTo.offer
    (omega (arith, up.other.0, long)) up.is_offer.extends.within noted are)

pub returns-in-Ok-clause-only_new : goal.returns-in-Ok-clause-only_new
returns-in-Ok-clause-only_new g c = inr (record {
  to = c.in-UpTo.to.0;
  offer = c.in-UpTo.offer;
  appended = c.in-Ok.ensures.ok;
  unknown = c.in-UpTo.ensures.unknown;
  noted = noted_of c.args.part.now c.in-UpTo.to.0 c.in-UpTo.offer c.args.offered.now c.note.new.self c.requires.covers c.note.ensures.changes c.note.ensures.known;
})
