-- The settled lanes of a group, ascending in (sender, receiver), and the book of messages that they hold.
use Rattle.std.specs.Prelude.{◌≡◌, ◌<◌, ◌+◌, ◌-◌, ◌*◌, ℕ, Option, Some, None, List, [], length, slice_get}
use Rattle.pg_lane.specs.declared.settling.Settled.{Settled}
use Rattle.pg_lane.specs.Settled.{settled_sent, settled_taken}
use Rattle.pg_group.specs.declared.messages.Body.{Body}
use Rattle.pg_group.specs.declared.messages.Envelope.{Envelope}
use Rattle.pg_group.specs.Envelopes.{bodies, IsNumbered}
use Rattle.pg_group.specs.Ranked.{IsOther, place_of}
use Rattle.pg_group.specs.Book.{PairLists}

module _ {B : Type 0} where
  -- the lane of a sender to a receiver, if there is one
  abbrev pub lane_of : ℕ → List (Settled (Envelope B)) → ℕ → ℕ → Option (Settled (Envelope B))
  lane_of ranks lanes sender receiver = slice_get lanes (sender * (ranks - 1) + place_of sender receiver)

  abbrev pub IsLane : ℕ → List (Settled (Envelope B)) → ℕ → ℕ → Settled (Envelope B) → Type 0
  IsLane ranks lanes sender receiver lane = (sender < ranks) × IsOther sender ranks receiver × (lane_of ranks lanes sender receiver ≡ Some lane)

  -- a fact of each lane
  abbrev pub EachLane : ℕ → List (Settled (Envelope B)) → (Settled (Envelope B) → Type 0) → Type 0
  EachLane ranks lanes Q = (sender receiver : ℕ) (lane : Settled (Envelope B)) → IsLane ranks lanes sender receiver lane → Q lane

  -- A lane for each sender and each other rank: all that was sent was taken, and each envelope has its number.
  pub record AreWhole (ranks : ℕ) (lanes : List (Settled (Envelope B))) : Type 0 where
    pub count : length lanes ≡ ranks * (ranks - 1)
    pub taken : EachLane ranks lanes (λ lane. settled_taken lane ≡ settled_sent lane)
    pub numbered : EachLane ranks lanes (λ lane. IsNumbered (settled_sent lane))

  abbrev pub bodies_sent : Option (Settled (Envelope B)) → List (Body B)
  bodies_sent None = []
  bodies_sent (Some lane) = bodies (settled_sent lane)

  abbrev pub bodies_taken : Option (Settled (Envelope B)) → List (Body B)
  bodies_taken None = []
  bodies_taken (Some lane) = bodies (settled_taken lane)

  -- what was sent by each sender to each receiver
  abbrev pub sent_on : ℕ → List (Settled (Envelope B)) → PairLists B
  sent_on ranks lanes sender receiver = bodies_sent (lane_of ranks lanes sender receiver)

  -- what was taken by each receiver from each sender
  abbrev pub taken_on : ℕ → List (Settled (Envelope B)) → PairLists B
  taken_on ranks lanes sender receiver = bodies_taken (lane_of ranks lanes sender receiver)
