-- The settled lanes of a group, by what the ports at their two ends show.
use Rattle.std.specs.Prelude.{◌≡◌, ℕ, List, Option, Some, slice_get}
use Rattle.pg_lane.specs.declared.settling.Settled.{Settled}
use Rattle.pg_lane.specs.Settled.{settled_sent, settled_taken, settled_capacity}
use Rattle.pg_group.specs.declared.messages.Body.{Body}
use Rattle.pg_group.specs.declared.messages.Envelope.{Envelope}
use Rattle.pg_group.specs.Envelopes.{bodies, IsNumbered}

module _ {B : Type 0} where
  -- One settled lane: what its sender sent down it and what its receiver took from it, all numbered, and its capacity.
  pub record IsSettledFrom (sent taken : List (Body B)) (capacity : Option ℕ) (lane : Settled (Envelope B)) : Type 0 where
    pub all_sent : bodies (settled_sent lane) ≡ sent
    pub all_taken : bodies (settled_taken lane) ≡ taken
    pub sent_numbered : IsNumbered (settled_sent lane)
    pub taken_numbered : IsNumbered (settled_taken lane)
    pub same_capacity : capacity ≡ Some (settled_capacity lane)

  -- the entry at this place is such a lane
  abbrev pub SettledAt : List (Settled (Envelope B)) → ℕ → List (Body B) → List (Body B) → Option ℕ → Type 0
  SettledAt lanes place sent taken capacity =
      (lane : Settled (Envelope B)) × (slice_get lanes place ≡ Some lane) × IsSettledFrom sent taken capacity lane
