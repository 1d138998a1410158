-- What lowering a value does.
use Rattle.std.specs.Prelude.{◌≡◌, ◌≢◌, ◌⊎◌, ℕ, true, List, Option, Some, None, ⊤, slice_set}
use Rattle.pg_label.specs.declared.values.Value.{Value}
use Rattle.pg_label.specs.Values.{Below, HasAtMost}
use Rattle.pg_agenda.specs.declared.shares.Share.{Share}
use Rattle.pg_agenda.specs.declared.shares.Share.TheVariants.{Light, Heavy, All}
use Rattle.pg_agenda.specs.Shares.{Places, AreSame}
use Rattle.pg_relax.specs.Tables.{value_at}

-- The value comes before that of the cell, if the cell has one.
abbrev pub HasBelow : Value → Option Value → Type 0
HasBelow value None = ⊤
HasBelow value (Some x) = Below value x

-- What the place had is as low as the value, and nothing changed.
pub record WasLow (place : ℕ) (value : Value) (values : List Value) (pending : Places) (values' : List Value) (pending' : Places) : Type 0 where
  pub most : HasAtMost (value_at values place) value
  pub same : values' ≡ values
  pub rests : AreSame pending pending'

-- The place has the value and is pending, and all others are as before.
pub record Fell (place : ℕ) (value : Value) (values : List Value) (pending : Places) (values' : List Value) (pending' : Places) : Type 0 where
  pub below : HasBelow value (value_at values place)
  pub set : values' ≡ slice_set values place value
  pub marked : (pending' All place ≡ true) ⊎ (pending' Light place ≡ true)
  pub heavy : pending' Heavy place ≡ pending Heavy place
  pub others : (share : Share) (other : ℕ) → other ≢ place → pending' share other ≡ pending share other

abbrev pub IsLowered : ℕ → Value → List Value → Places → List Value → Places → Type 0
IsLowered place value values pending values' pending' = WasLow place value values pending values' pending' ⊎ Fell place value values pending values' pending'
