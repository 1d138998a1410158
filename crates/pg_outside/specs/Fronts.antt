-- Which front of its piece a call of `write_all` appends to a text of fixed room, and whether it fails.
use Rattle.std.specs.Prelude.{ℕ, ◌==◌, min, nat_lt, true, Option, Some, None, List, [], ◌∷◌, if◌then◌else◌}
use Rattle.pg_outside.specs.declared.fronts.Front.{Front}

-- How many bytes the call of this number is to append at most: what the first pair with its number says.
-- A call with a pair fails.
abbrev pub planned_front : ℕ → List (ℕ × ℕ) → Option ℕ
planned_front call [] = None
planned_front call (pair ∷ pairs) = if pair.0 == call then Some pair.1 else planned_front call pairs

-- The front of a piece of `len` bytes where `left` bytes of room are left: as much as fits, and no more than
-- was planned.
abbrev pub front_of : Option ℕ → ℕ → ℕ → Front
front_of None left len = record { len = min len left; fails = nat_lt left len }
front_of (Some most) left len = record { len = min most (min len left); fails = true }
