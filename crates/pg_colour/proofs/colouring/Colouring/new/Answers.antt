use Rattle.std.proofs.Common.{◌∙◌, ap, length, refl}
use Rattle.pg_cells.specs.Shown.{state_of}
use Rattle.pg_cells.specs.States.{CellState}
use Rattle.pg_colour.proofs.NewCells.{beside_from, new_noted, new_owed, new_places, new_slots, new_small}
use Rattle.pg_colour.proofs.OpeningLemmas.{places_within}
use Rattle.pg_colour.proofs.colouring.Colouring.new.Goals as goal

pub invariant_of-result-clause-same_part : goal.invariant_of-result-clause-same_part
invariant_of-result-clause-same_part c = ap (λ (s : CellState). s.part) c.in_ok-cells.ensures.new

pub invariant_of-result-clause-backward : goal.invariant_of-result-clause-backward
invariant_of-result-clause-backward c = ap (λ (s : CellState). s.flags.backward) c.in_ok-cells.ensures.new ∙ c.bidirectional-flags.ensures.backward

pub invariant_of-result-clause-phase : goal.invariant_of-result-clause-phase
invariant_of-result-clause-phase c = ap (λ (s : CellState). s.phase) c.in_ok-cells.ensures.new

pub invariant_of-result-clause-not_owed : goal.invariant_of-result-clause-not_owed
invariant_of-result-clause-not_owed c = new_owed c.args.part c.bidirectional-flags.result (state_of c.in_ok-cells.cells) c.in_ok-cells.ensures.new

pub invariant_of-result-clause-not_noted : goal.invariant_of-result-clause-not_noted
invariant_of-result-clause-not_noted c = new_noted c.args.part c.bidirectional-flags.result (state_of c.in_ok-cells.cells) c.in_ok-cells.ensures.new

pub invariant_of-result-clause-small : goal.invariant_of-result-clause-small
invariant_of-result-clause-small c = new_small c.args.part c.bidirectional-flags.result (state_of c.in_ok-cells.cells) c.in_ok-cells.ensures.new

pub invariant_of-result-clause-beside : goal.invariant_of-result-clause-beside
invariant_of-result-clause-beside c = beside_from c.args.part c.in_ok-slots.slots.items c.in_ok-slots.ensures

pub invariant_of-result-clause-places : goal.invariant_of-result-clause-places
invariant_of-result-clause-places c = places_within (length c.args.part.vertices) c.in-Ok.list.items c.in-Ok.ensures.places

pub returns-clause-new : goal.returns-clause-new
returns-clause-new c = record {
  opening = record {
    round = refl;
    cast = refl;
    ended = refl;
    list = c.in-Ok.ensures.places;
    done = refl;
    own = new_places c.args.part c.bidirectional-flags.result (state_of c.in_ok-cells.cells) c.in_ok-cells.ensures.new;
    seen = λ slot below. new_slots c.args.part c.bidirectional-flags.result (state_of c.in_ok-cells.cells) c.in_ok-cells.ensures.new slot;
  };
  idle = refl;
}
