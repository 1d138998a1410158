-- What a relaxation shows of itself, and what it promises.
use Rattle.std.specs.Prelude.{◌≡◌, ℕ, false, Some, None, List, slice_get}
use Rattle.pg_group.specs.declared.messages.Body.{Body}
use Rattle.pg_label.specs.declared.labels.Label.{Ghosts as LabelGhosts}
use Rattle.pg_agenda.specs.declared.agendas.Agenda.{Ghosts as AgendaGhosts}
use Rattle.pg_agenda.specs.Shares.{AreSame}
use Rattle.pg_adj.specs.Portions.{Portion}
use Rattle.pg_best.specs.declared.offers.Offer.{Offer}
use Rattle.pg_relax.specs.declared.relaxing.Relax.{Relax}
use Rattle.pg_relax.specs.Rounds.{count_of}
use Rattle.pg_relax.specs.States.{label_of}
use Rattle.pg_relax.specs.Kept.{HasRelaxed, IsOpening}
use Rattle.pg_relax.specs.Offered.{AreOffered}
use Rattle.pg_relax.specs.declared.offered.Offered.{Offered}
use Rattle.pg_relax.specs.declared.offered.Told.{Told}
use Rattle.pg_relax.specs.Tables.{shown}
use Rattle.pg_relax.specs.Whole.{State}

module _ {L A : Type 0} {l : LabelGhosts L} {a : AgendaGhosts A} where
  -- the part whose arcs it relaxes
  abbrev pub part_in : Relax L A l a → Portion
  part_in r = r.part

  -- its label
  abbrev pub label_in : Relax L A l a → L
  label_in r = r.label

  -- its agenda
  abbrev pub agenda_in : Relax L A l a → A
  agenda_in r = r.frontier.agenda

  -- what it has offered to vertices of other ranks
  abbrev pub offered_in : Relax L A l a → Offered
  offered_in r = r.offered

  abbrev pub state_of : Relax L A l a → State
  state_of r = record {
    part = r.part;
    takes = a.takes r.frontier.agenda;
    values = r.frontier.table.values.items;
    pending = a.pending r.frontier.agenda;
    ahead = r.ahead;
    round = count_of r.rounds;
    cast = r.cast;
    ended = r.ended;
    sends = r.sends;
  }

  -- Nothing was called of it yet: just the vertices that start have values.
  pub record IsNewRelax (r : Relax L A l a) : Type 0 where
    pub opening : IsOpening (label_of (l.start r.label) (l.add r.label)) r.part r.frontier.table.values.items (a.pending r.frontier.agenda)
    pub ahead : r.ahead ≡ None
    pub round : count_of r.rounds ≡ 0
    pub cast : r.cast ≡ None
    pub idle : r.idle ≡ false
    pub ended : r.ended ≡ false
    pub sends : r.sends ≡ false
    pub unoffered : (index : ℕ) (told : Told) → slice_get r.offered.told.items index ≡ Some told → shown told.value ≡ None

  -- The part, the label and the arcs that each share takes stay, the law of relaxation holds over what was handled and
  -- sent, and what stands for a vertex of another rank was offered to it.
  pub record KeepsRelaxed (start : Relax L A l a) (handled sent : List (List (Body Offer))) (r : Relax L A l a) : Type 0 where
    pub part : r.part ≡ start.part
    pub label : r.label ≡ start.label
    pub takes : AreSame (a.takes start.frontier.agenda) (a.takes r.frontier.agenda)
    pub relaxed : HasRelaxed (label_of (l.start r.label) (l.add r.label)) r.part (a.takes r.frontier.agenda) handled sent r.frontier.table.values.items (a.pending r.frontier.agenda) r.ahead
        (count_of r.rounds) r.cast r.ended r.sends
    pub offered : AreOffered sent r.offered
