use Rattle.std.proofs.Common.{refl}
use Rattle.pg_relax.specs.Rounds.{count_of}
use Rattle.pg_relax.specs.States.{label_of}
use Rattle.pg_group.specs.Supersteps.{nothing}
use Rattle.pg_relax.proofs.OfferedLemmas.{none_offered}
use Rattle.pg_relax.proofs.OpeningLemmas.{opening_at}
use Rattle.pg_relax.proofs.programs.RelaxProgram.rank.Goals as goal

pub returns-clause-opening : goal.returns-clause-opening
returns-clause-opening g c = λ new. record {
  part = refl;
  label = refl;
  takes = λ share w. refl;
  offered = none_offered (nothing c.args.self.now.part.ranks) c.args.self.now.offered new.unoffered;
  relaxed = opening_at (label_of (g.L.Label.start c.args.self.now.label) (g.L.Label.add c.args.self.now.label)) c.args.self.now.part (g.A.Agenda.takes c.args.self.now.frontier.agenda)
      (g.A.Agenda.pending c.args.self.now.frontier.agenda) c.args.self.now.frontier.table.values.items c.args.self.now.ahead (count_of c.args.self.now.rounds) c.args.self.now.cast c.args.self.now.ended c.args.self.now.sends
      new.opening new.ahead new.round new.cast new.ended new.sends;
}
