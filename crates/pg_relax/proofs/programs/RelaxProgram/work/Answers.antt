use Rattle.std.proofs.Common.{◌∙◌, subst}
use Rattle.pg_relax.specs.Rounds.{count_of}
use Rattle.pg_relax.specs.States.{label_of, Relaxes}
use Rattle.pg_relax.proofs.KeptLemmas.{at_work}
use Rattle.pg_relax.proofs.programs.RelaxProgram.work.Goals as goal

pub returns-clause-kept : goal.returns-clause-kept
returns-clause-kept g c = λ start handled kept.
    let said = c.go_on-went.ensures in
    let label = (label_of (g.L.Label.start c.args.self.now.label) (g.L.Label.add c.args.self.now.label)) in record {
      part = kept.part;
      label = kept.label;
      takes = λ share w. said.takes share w ∙ kept.takes share w;
      offered = said.offered kept.relaxed.marked.to_each kept.offered;
      relaxed = at_work label c.args.self.now.part (g.A.Agenda.takes c.args.self.now.frontier.agenda) (g.A.Agenda.takes c.go_on-went.new.frontier.agenda) handled (g.O.Outbox.sent c.args.out.now) (g.O.Outbox.sent c.go_on-went.new.out)
          c.args.self.now.frontier.table.values.items c.go_on-went.new.frontier.table.values.items (g.A.Agenda.pending c.args.self.now.frontier.agenda) (g.A.Agenda.pending c.go_on-went.new.frontier.agenda)
          c.args.self.now.ahead c.go_on-went.result.ahead (count_of c.args.self.now.rounds) c.args.self.now.cast c.args.self.now.ended c.args.self.now.sends c.go_on-went.result.sent kept.relaxed c.requires.uncast said.sent said.unsent
          (λ long before. said.kept handled long kept.offered (subst (λ h. Relaxes label c.args.self.now.part (g.A.Agenda.takes c.args.self.now.frontier.agenda) handled (g.O.Outbox.sent c.args.out.now) c.args.self.now.frontier.table.values.items (g.A.Agenda.pending c.args.self.now.frontier.agenda) h) c.in-Some.is before));
    }
