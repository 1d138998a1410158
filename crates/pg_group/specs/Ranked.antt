-- What a rank keeps for each rank of its group, listed by rank, and for each other rank, listed ascending.
use Rattle.std.specs.Prelude.{◌≡◌, ◌≢◌, ℕ, zero, suc, ◌-◌, ◌<◌, Bool, true, false, List, [], ◌∷◌, ◌++◌, nat_lt, if◌then◌else◌, slice_index_or}
use Rattle.atomic_table.specs.Seated.{TableId}

-- another rank of the group
abbrev pub IsOther : ℕ → ℕ → ℕ → Type 0
IsOther own size rank = (rank < size) × (rank ≢ own)

-- where the other rank stands among the ranks other than the own one
abbrev pub place_of : ℕ → ℕ → ℕ
place_of own rank = if nat_lt rank own then rank else rank - 1

module _ {X : Type 0} where
  -- the list by rank: the own entry stands at the own rank, between the others'
  abbrev pub by_rank : X → ℕ → List X → List X
  by_rank mine zero xs = mine ∷ xs
  by_rank mine (suc own) [] = mine ∷ []
  by_rank mine (suc own) (x ∷ xs) = x ∷ by_rank mine own xs

  -- the lists after x joined the one at this place
  abbrev pub append_at : List (List X) → ℕ → X → List (List X)
  append_at [] k x = []
  append_at (xs ∷ xss) zero x = (xs ++ x ∷ []) ∷ xss
  append_at (xs ∷ xss) (suc k) x = xs ∷ append_at xss k x

  -- the list of a rank
  abbrev pub list_at : List (List X) → ℕ → List X
  list_at xss rank = slice_index_or xss rank []

-- the flag of a rank
abbrev pub flag_at : List Bool → ℕ → Bool
flag_at flags rank = slice_index_or flags rank false

-- the flags of all other ranks are set
abbrev pub AllSet : ℕ → ℕ → List Bool → Type 0
AllSet own size flags = (rank : ℕ) → IsOther own size rank → flag_at flags rank ≡ true

-- as many flags, none of them set
abbrev pub all_clear : List Bool → List Bool
all_clear [] = []
all_clear (flag ∷ flags) = false ∷ all_clear flags

-- How a port stands in its group: its rank, the group's size, and which lanes lead to and from the other ranks,
-- ascending, with the capacities of those that lead to them.
pub record Wiring : Type 0 where
  pub own : ℕ
  pub size : ℕ
  pub lanes_out : List TableId
  pub lanes_in : List TableId
  pub capacities : List ℕ

abbrev pub wired : ℕ → ℕ → List TableId → List TableId → List ℕ → Wiring
wired own size lanes_out lanes_in capacities =
    record { own = own; size = size; lanes_out = lanes_out; lanes_in = lanes_in; capacities = capacities }
