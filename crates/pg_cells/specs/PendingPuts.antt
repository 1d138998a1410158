-- The slots for which something is pending: a put that is owed to the ghost's owner, or a note.
use Rattle.std.specs.Prelude.{◌≡◌, ◌≢◌, ◌==◌, ◌||◌, ℕ, Bool, false, List, Option, None, AllPairs, is_some, length, ◌-◌, slice_get, slice_index_or}
use Rattle.std.specs.List.{list_any}

abbrev pub is_pending : List (Option ℕ) → List Bool → ℕ → Bool
is_pending owed noted slot = is_some (slice_index_or owed slot None) || slice_index_or noted slot false

-- the list has these slots, each once
pub record ArePending (owed : List (Option ℕ)) (noted : List Bool) (slots : List ℕ) : Type 0 where
  pub each : (slot : ℕ) → list_any (λ s. slot == s) slots ≡ is_pending owed noted slot
  pub once : AllPairs (λ a b. a ≢ b) slots

-- the slot that is sent for next
abbrev pub next_slot : List ℕ → Option ℕ
next_slot slots = slice_get slots (length slots - 1)
