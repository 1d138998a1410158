-- The winners of labels as they lie in memory.
use Rattle.std.specs.Prelude.{◌≡◌, ◌⊎◌, ℕ, ◌<◌, ◌≤◌, min, List, length, slice_index}
use Rattle.pg_boruvka.specs.declared.TheConstants.{NO_KEY}
use Rattle.pg_boruvka.specs.declared.messages.Message.{Message}
use Rattle.pg_boruvka.specs.Winners.{given_key}

-- The labels from the first on and before the past one.
pub record IsBetween (first past l : ℕ) : Type 0 where
  pub from : first ≤ l
  pub before : l < past

-- The winners between are lowered to the keys that the message gives.
pub record AreLowered (m : Message) (first past : ℕ) (old new : List ℕ) : Type 0 where
  pub between : (l : ℕ) → IsBetween first past l → slice_index new l ≡ min (slice_index old l) (given_key l m)
  pub others : (l : ℕ) → (IsBetween first past l → ⊥) → slice_index new l ≡ slice_index old l

-- The winners between are the keys, and the others none.
pub record AreBegun (keys : List ℕ) (first past : ℕ) (winners : List ℕ) : Type 0 where
  pub between : (l : ℕ) → IsBetween first past l → slice_index winners l ≡ slice_index keys l
  pub others : (l : ℕ) → l < length winners → (IsBetween first past l → ⊥) → slice_index winners l ≡ NO_KEY
