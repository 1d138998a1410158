use Rattle.std.proofs.Common.{◌<◌, ◌∙◌, subst}
use Rattle.pg_relax.specs.Rounds.{count_of}
use Rattle.pg_relax.specs.States.{label_of}
use Rattle.pg_relax.proofs.KeptLemmas.{at_again, at_stop}
use Rattle.pg_relax.proofs.programs.RelaxProgram.round_end.Goals as goal

pub returns-then-are_quiet-clause-kept : goal.returns-then-are_quiet-clause-kept
returns-then-are_quiet-clause-kept g c = λ start handled sent kept. record {
  part = kept.part;
  label = kept.label;
  takes = kept.takes;
  offered = kept.offered;
  relaxed = at_stop (label_of (g.L.Label.start c.args.self.now.label) (g.L.Label.add c.args.self.now.label)) c.args.self.now.part (g.A.Agenda.takes c.args.self.now.frontier.agenda) (g.A.Agenda.takes c.args.self.now.frontier.agenda) handled sent c.args.self.now.frontier.table.values.items c.args.self.now.frontier.table.values.items
      (g.A.Agenda.pending c.args.self.now.frontier.agenda) (g.A.Agenda.pending c.args.self.now.frontier.agenda) c.args.self.now.ahead c.args.self.now.ahead (count_of c.args.self.now.rounds) c.args.self.now.cast c.args.self.now.ended c.args.self.now.sends kept.relaxed
      c.args.votes.now c.requires.running c.requires.each c.requires.mine (subst (λ r. r < c.args.self.now.part.ranks) c.rank-rank.ensures.value c.rank-rank.ensures.below) (c.are_quiet.ensures.quiet c.if-are_quiet.true);
}

pub returns-clause-kept : goal.returns-clause-kept
returns-clause-kept g c = λ start handled sent kept. record {
  part = kept.part;
  label = kept.label;
  takes = λ share w. c.begin.ensures.same_takes share w ∙ kept.takes share w;
  offered = kept.offered;
  relaxed = at_again (label_of (g.L.Label.start c.args.self.now.label) (g.L.Label.add c.args.self.now.label)) c.args.self.now.part (g.A.Agenda.takes c.args.self.now.frontier.agenda) (g.A.Agenda.takes c.begin.new.self) handled sent c.args.self.now.frontier.table.values.items c.args.self.now.frontier.table.values.items
      (g.A.Agenda.pending c.args.self.now.frontier.agenda) (g.A.Agenda.pending c.begin.new.self) c.args.self.now.ahead c.args.self.now.ahead (count_of c.args.self.now.rounds) c.args.self.now.cast c.args.self.now.ended c.args.self.now.sends kept.relaxed
      c.args.votes.now c.requires.running c.begin.ensures.same_takes c.begin.ensures.rests c.requires.each c.requires.mine (subst (λ r. r < c.args.self.now.part.ranks) c.rank-rank.ensures.value c.rank-rank.ensures.below) (c.are_quiet.ensures.not c.if-are_quiet.false) (count_of c.count.new.self) c.count.ensures;
}
