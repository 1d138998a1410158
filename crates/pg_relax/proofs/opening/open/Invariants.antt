use Rattle.std.proofs.Common.{length, ◌≡◌}
use Rattle.pg_agenda.specs.Shares.{AreSame}
use Rattle.pg_relax.specs.Kept.{IsOpenBelow}
use Rattle.pg_relax.specs.States.{label_of}
use Rattle.pg_relax.proofs.opening.open.Given as goal

abbrev pub invariant-loop-place : goal.invariant-loop-place
invariant-loop-place g l =
    record {
      each : length l.frontier.table.values.items ≡ length l.part.vertices;
      opening : IsOpenBelow l.place (label_of (g.L.Label.start l.label) (g.L.Label.add l.label)) l.part l.frontier.table.values.items (g.A.Agenda.pending l.frontier.agenda);
      takes : AreSame (g.A.Agenda.takes l.fn.frontier.agenda) (g.A.Agenda.takes l.frontier.agenda);
    }
