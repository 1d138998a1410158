-- The two lists that a table of seats holds.
use Rattle.std.specs.Prelude.{ℕ, List, map}
use Rattle.pg_dist.specs.declared.tables.Seat.{Seat}

-- the owners
abbrev pub owners_of : List Seat → List ℕ
owners_of seats = map (λ s. s.owner.0) seats

-- the places
abbrev pub places_of : List Seat → List ℕ
places_of seats = map (λ s. s.place) seats
