-- What a settled lane shows: the lists of what was sent down it and of what was taken, and how many messages it held
-- at most.
use Rattle.std.specs.Prelude.{ℕ, List}
use Rattle.pg_lane.specs.declared.settling.Settled.{Settled}

module _ {M : Type 0} where
  abbrev pub settled_sent : Settled M → List M
  settled_sent s = s.sent.value

  abbrev pub settled_taken : Settled M → List M
  settled_taken s = s.taken.value

  abbrev pub settled_capacity : Settled M → ℕ
  settled_capacity s = s.capacity
