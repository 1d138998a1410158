-- A sparse set: for each member of a list a place in the list that holds it.
-- Source: Briggs and Torczon, An efficient representation for sparse sets (ACM LOPLAS 2, 1993).
use Rattle.std.specs.Prelude.{◌≡◌, ◌≤◌, ◌<◌, ◌-◌, ℕ, List, All, length, slice_index}

-- the entry of a member, counted from the least one, is a place that holds it
pub record IsFound (members : List ℕ) (least : ℕ) (sparse : List ℕ) (member : ℕ) : Type 0 where
  pub at_least : least ≤ member
  pub entry : member - least < length sparse
  pub place : slice_index sparse (member - least) < length members
  pub holds : slice_index members (slice_index sparse (member - least)) ≡ member

abbrev pub AreFound : List ℕ → ℕ → List ℕ → Type 0
AreFound members least sparse = All (IsFound members least sparse) members
