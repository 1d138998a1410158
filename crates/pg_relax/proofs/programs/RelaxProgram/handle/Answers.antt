use Rattle.std.proofs.Common.{◌∙◌}
use Rattle.pg_relax.specs.Rounds.{count_of}
use Rattle.pg_relax.specs.States.{label_of}
use Rattle.pg_relax.proofs.KeptLemmas.{handle_kept, ignore_kept}
use Rattle.pg_relax.proofs.programs.RelaxProgram.handle.Goals as goal

pub returns-then-fits-clause-kept : goal.returns-then-fits-clause-kept
returns-then-fits-clause-kept g c = λ start handled sent kept. record {
  part = kept.part;
  label = kept.label;
  takes = λ share w. c.lower.ensures.same_takes share w ∙ kept.takes share w;
  offered = kept.offered;
  relaxed = handle_kept (label_of (g.L.Label.start c.args.self.now.label) (g.L.Label.add c.args.self.now.label)) c.args.self.now.part (g.A.Agenda.takes c.args.self.now.frontier.agenda) (g.A.Agenda.takes c.lower.new.self.agenda) handled sent c.args.self.now.frontier.table.values.items c.lower.new.self.table.values.items
      (g.A.Agenda.pending c.args.self.now.frontier.agenda) (g.A.Agenda.pending c.lower.new.self.agenda) c.args.self.now.ahead (count_of c.args.self.now.rounds) c.args.self.now.cast c.args.self.now.ended c.args.self.now.sends
      c.args._from.0 c.args.offer c.args.self.now.each c.lower.ensures.same_takes (c.fits.ensures.fits c.if-fits.true) c.requires c.lower.ensures.lowered kept.relaxed;
}

pub returns-else-fits-clause-kept : goal.returns-else-fits-clause-kept
returns-else-fits-clause-kept g c = λ start handled sent kept. record {
  part = kept.part;
  label = kept.label;
  takes = kept.takes;
  offered = kept.offered;
  relaxed = ignore_kept (label_of (g.L.Label.start c.args.self.now.label) (g.L.Label.add c.args.self.now.label)) c.args.self.now.part (g.A.Agenda.takes c.args.self.now.frontier.agenda) handled sent c.args.self.now.frontier.table.values.items
      (g.A.Agenda.pending c.args.self.now.frontier.agenda) c.args.self.now.ahead (count_of c.args.self.now.rounds) c.args.self.now.cast c.args.self.now.ended c.args.self.now.sends
      c.args._from.0 c.args.offer (c.fits.ensures.not c.if-fits.false) c.requires kept.relaxed;
}
