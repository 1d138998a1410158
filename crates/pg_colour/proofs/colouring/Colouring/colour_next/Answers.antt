use Rattle.std.proofs.Common.{◌≡◌, ◌<◌, ◌∙◌, ℕ, Bool, false, List, Option, All, None, length, refl, sym, ap, subst, arith}
use Rattle.std.proofs.lemmas.Option.{slice_get_read}
use Rattle.pg_adj.specs.ArcSlots.{AreSlotsOf}
use Rattle.pg_adj.specs.Portions.{Portion}
use Rattle.pg_cells.specs.Shown.{state_of}
use Rattle.pg_cells.specs.States.{CellState}
use Rattle.pg_colour.specs.Items.{items_in}
use Rattle.pg_colour.specs.Seen.{at_places, at_slots}
use Rattle.pg_colour.proofs.NewCells.{slots_from}
use Rattle.pg_colour.proofs.WorkLemmas.{set_cell, set_small}
use Rattle.pg_colour.proofs.colouring.Colouring.colour_next.Goals as goal

pub least_free-colour-requires-clause-slots : goal.least_free-colour-requires-clause-slots
least_free-colour-requires-clause-slots c =
    let self = c.args.self.now in
    subst (AreSlotsOf self.part.ghosts self.part.arcs) (sym c.deref.ensures.value) (slots_from self.part self.slots.items self.beside)

pub invariant_of-self-2-clause-not_owed : goal.invariant_of-self-2-clause-not_owed
invariant_of-self-2-clause-not_owed c =
    subst (λ (owed : List (Option ℕ)). All (λ o. o ≡ None) owed) (sym (ap (λ (s : CellState). s.owed) c.put_at.ensures.state)) c.args.self.now.not_owed

pub invariant_of-self-2-clause-not_noted : goal.invariant_of-self-2-clause-not_noted
invariant_of-self-2-clause-not_noted c =
    subst (λ (noted : List Bool). All (λ o. o ≡ false) noted) (sym (ap (λ (s : CellState). s.noted) c.put_at.ensures.state)) c.args.self.now.not_noted

pub invariant_of-self-2-clause-small : goal.invariant_of-self-2-clause-small
invariant_of-self-2-clause-small c =
    let own = (state_of c.args.self.now.cells).own in
    subst (λ (xs : List ℕ). All (λ colour. (colour ≡ 18446744073709551615 → ⊥) → colour < 4294967296) xs) (sym (ap (λ (s : CellState). s.own) c.put_at.ensures.state))
    (set_small own c.index-place.result.now c.least_free-colour.result c.least_free-colour.ensures.small c.args.self.now.small)

pub returns-clause-coloured : goal.returns-clause-coloured
returns-clause-coloured c = λ done.
    let self = c.args.self.now in
    let place : ℕ = c.index-place.result.now in
    let own = (state_of self.cells).own in
    let less : self.next < length self.list.items = omega (arith, self.within, ap (items_in self.part self.list.items) (self.phase ∙ c.requires.pass), c.if-self-len.false, c.len.ensures) in
    let at = slice_get_read self.list.items (length self.list.items) self.next place refl less c.index-place.ensures in
    let below : place < length self.part.vertices = subst (λ (k : ℕ). k < length self.part.vertices) (sym c.index-place.ensures) (self.places self.next place less) in
    let inside : place < length own = omega (arith, below, self.cells.own_each, ap (λ (p : Portion). length p.vertices) self.same_part) in
    record {
      pass = c.requires.pass;
      place = place;
      colour = c.least_free-colour.result;
      next = at;
      least = c.least_free-colour.ensures.least;
      own = λ k. ap (λ (s : CellState). at_places s.own k) c.put_at.ensures.state ∙ set_cell own place c.least_free-colour.result inside k;
      seen = λ slot. ap (λ (s : CellState). at_slots s.ghosts slot) c.put_at.ensures.state;
      done = refl;
      stays = record { round = refl; cast = refl; ended = refl; list = refl };
    }
