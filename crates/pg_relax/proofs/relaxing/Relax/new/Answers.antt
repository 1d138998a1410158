use Rattle.std.proofs.Common.{◌∙◌, ap, length, refl, slice_get, sym}
use Rattle.pg_relax.specs.States.{label_of}
use Rattle.pg_relax.proofs.OfferedLemmas.{nothing_told}
use Rattle.pg_relax.proofs.OpeningLemmas.{opening_same}
use Rattle.pg_relax.proofs.relaxing.Relax.new.Goals as goal

pub returns-clause-new : goal.returns-clause-new
returns-clause-new g c = record {
  opening = opening_same (label_of (g.L.Label.start c.args.label) (g.L.Label.add c.args.label)) c.args.part c.open.new.frontier.table.values.items (g.A.Agenda.pending c.open.new.frontier.agenda) (g.A.Agenda.pending c.begin.new.self)
      c.begin.ensures.rests c.open.ensures.opening;
  ahead = refl;
  round = refl;
  cast = refl;
  idle = refl;
  ended = refl;
  sends = refl;
  unoffered = λ index told at. nothing_told (length c.in-Ok-new.offered.told.items) index told (ap (λ ts. slice_get ts index) (sym c.in-Ok-new.ensures.nothing) ∙ at);
}
