-- Two vertices on two ranks, with one arc of weight 5 from the first to the second.
use Rattle.std.specs.Prelude.{ℕ, zero, suc, ◌-◌, false, Option, Some, List, [], ◌∷◌}
use Rattle.pg_base.specs.Graph.{Arc}
use Rattle.pg_group.specs.declared.messages.Body.{Body}
use Rattle.pg_group.specs.declared.messages.Body.TheVariants.{Item, Mark}
use Rattle.pg_group.specs.declared.messages.Vote.{Vote}
use Rattle.pg_label.specs.declared.values.Value.{Value}
use Rattle.pg_best.specs.declared.offers.Offer.{Offer}
use Rattle.pg_label.specs.Values.{start_value}
use Rattle.pg_best.specs.Labels.{weight_from}
use Rattle.pg_best.specs.Parts.{Part, LocalArc}
use Rattle.pg_best.specs.LocalRelax.{NONE}
use Rattle.pg_best.specs.Relaxation.{Run}

abbrev pub arc : Arc
arc = record { from = 1; to = 2; weight = 5 }

abbrev pub local : LocalArc
local = record { at = 0; to = 2; home = 1; place = 0; weight = 5 }

abbrev pub part_of : ℕ → Part
part_of zero = record { rank = 0; ranks = 2; vertices = 1 ∷ []; arcs = local ∷ [] }
part_of (suc r) = record { rank = suc r; ranks = 2; vertices = 2 ∷ []; arcs = [] }

abbrev pub second : Value
second = record { class = 0; amount = 5; hops = 1 }

abbrev pub offer : Offer
offer = record { to = record { 0 = 2 }; place = 0; value = second }

abbrev pub busy : Vote
busy = record { a = NONE; b = 1; c = 0; d = 0 }

abbrev pub empty : Vote
empty = record { a = NONE; b = 0; c = 0; d = 0 }

abbrev pub there : List (Body Offer)
there = Item offer ∷ Mark busy ∷ Mark empty ∷ []

abbrev pub back : List (Body Offer)
back = Mark empty ∷ Mark empty ∷ []

abbrev pub sent_of : ℕ → List (List (Body Offer))
sent_of zero = [] ∷ there ∷ []
sent_of (suc r) = back ∷ [] ∷ []

abbrev pub handled_of : ℕ → List (List (Body Offer))
handled_of zero = [] ∷ back ∷ []
handled_of (suc r) = there ∷ [] ∷ []

abbrev pub cell_of : ℕ → ℕ → Option Value
cell_of zero i = Some (start_value 0)
cell_of (suc r) i = Some second

abbrev pub example : Run
example = record {
  n = 2;
  ranks = 2;
  arcs = arc ∷ [];
  owner = λ v. v - 1;
  place = λ v. 0;
  parts = part_of;
  label = weight_from 1;
  handled = handled_of;
  sent = sent_of;
  cell = cell_of;
  due = λ r a. false;
  last = λ r. 1;
}
