-- Values by place, where one value stands for none.
use Rattle.std.specs.Prelude.{◌≡◌, ◌≢◌, ◌==◌, ℕ, List, All, Option, Some, None, slice_index_or, if◌then◌else◌}
use Rattle.pg_label.specs.declared.values.Value.{Value}
use Rattle.pg_label.specs.Values.{IsWithin}

-- what stands at a place without a value
abbrev pub nowhere : Value
nowhere = record { class = 4294967295; hops = 4294967295; amount = 18446744073709551615 }

abbrev pub shown : Value → Option Value
shown v = if v.hops == 4294967295 then None else Some v

-- the value at a place
abbrev pub value_at : List Value → ℕ → Option Value
value_at values place = shown (slice_index_or values place nowhere)

-- A value within the limits, or what stands for none.
pub record IsEntry (v : Value) : Type 0 where
  pub within : v.hops ≢ 4294967295 → IsWithin v
  pub none : v.hops ≡ 4294967295 → v ≡ nowhere

abbrev pub AreEntries : List Value → Type 0
AreEntries values = All IsEntry values
