use Rattle.std.proofs.Common.{◌∙◌}
use Rattle.pg_relax.specs.Rounds.{count_of}
use Rattle.pg_relax.specs.States.{label_of}
use Rattle.pg_group.specs.declared.messages.Body.TheVariants.{Mark}
use Rattle.pg_group.specs.Supersteps.{append_others}
use Rattle.pg_relax.proofs.KeptLemmas.{at_vote}
use Rattle.pg_relax.proofs.ListLemmas.{voted_items}
use Rattle.pg_relax.proofs.OfferedLemmas.{offered_marked}
use Rattle.pg_relax.proofs.programs.RelaxProgram.vote.Goals as goal

pub returns-clause-kept : goal.returns-clause-kept
returns-clause-kept g c = λ start handled sent kept.
    let said = c.vote-vote.ensures in record {
      part = kept.part;
      label = kept.label;
      takes = λ share w. said.same_takes share w ∙ kept.takes share w;
      offered = offered_marked sent (append_others c.args.self.now.part.rank (Mark c.vote-vote.result) sent) c.args.self.now.offered
          (voted_items c.args.self.now.part.rank c.vote-vote.result sent) kept.offered;
      relaxed = at_vote (label_of (g.L.Label.start c.args.self.now.label) (g.L.Label.add c.args.self.now.label)) c.args.self.now.part (g.A.Agenda.takes c.args.self.now.frontier.agenda) (g.A.Agenda.takes c.vote-vote.new.self) handled sent c.args.self.now.frontier.table.values.items c.args.self.now.frontier.table.values.items
          (g.A.Agenda.pending c.args.self.now.frontier.agenda) (g.A.Agenda.pending c.vote-vote.new.self) c.args.self.now.ahead c.args.self.now.ahead (count_of c.args.self.now.rounds) c.args.self.now.cast c.args.self.now.ended c.args.self.now.sends kept.relaxed
          c.vote-vote.result (c.args.self.now.rests c.requires.idle) c.requires.uncast said.same_takes said.rests said.odd said.none;
    }
