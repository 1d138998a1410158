use Rattle.std.proofs.Common.{length, ◌-◌, ◌≡◌, ◌≤◌, Some}
use Rattle.pg_agenda.specs.Shares.{AreSame}
use Rattle.pg_relax.specs.Passing.{KeepsOver, from_arc}
use Rattle.pg_relax.specs.States.{label_of}
use Rattle.pg_relax.proofs.passing.next_offer.Given as goal

abbrev pub invariant-loop-next : goal.invariant-loop-next
invariant-loop-next g l =
    record {
      reached : l.fn.ahead.next ≤ l.next;
      each : length l.frontier.table.values.items ≡ length l.part.vertices;
      takes : AreSame (g.A.Agenda.takes l.fn.frontier.agenda) (g.A.Agenda.takes l.frontier.agenda);
      kept : KeepsOver l.offered (label_of (g.L.Label.start l.label) (g.L.Label.add l.label)) l.part
          (g.A.Agenda.takes l.fn.frontier.agenda) l.fn.frontier.table.values.items (g.A.Agenda.pending l.fn.frontier.agenda) (Some l.fn.ahead)
          (g.A.Agenda.takes l.frontier.agenda) l.frontier.table.values.items (g.A.Agenda.pending l.frontier.agenda) (Some (from_arc l.fn.ahead l.next));
      stays : l.next ≡ l.fn.ahead.next → l.frontier ≡ l.fn.frontier;
    }

abbrev pub decreases-loop-next : goal.decreases-loop-next
decreases-loop-next g l = length l.arcs - l.next
