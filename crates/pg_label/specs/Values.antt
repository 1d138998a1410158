-- The order of values, how an arc extends them, and where a label starts.
use Rattle.std.specs.Prelude.{◌≡◌, ◌==◌, ◌⊎◌, ℕ, ◌+◌, ◌*◌, ◌<◌, ◌≤◌, Option, Some, None, if◌then◌else◌}
use Rattle.pg_label.specs.declared.values.Value.{Value}

-- By class, then amount, then hops.
pub record AtMost (x y : Value) : Type 0 where
  pub class : x.class ≤ y.class
  pub amount : x.class ≡ y.class → x.amount ≤ y.amount
  pub hops : x.class ≡ y.class → x.amount ≡ y.amount → x.hops ≤ y.hops

-- The first one comes before the second in that order.
abbrev pub Below : Value → Value → Type 0
Below x y = (x.class < y.class) ⊎ ((x.class ≡ y.class) × ((x.amount < y.amount) ⊎ ((x.amount ≡ y.amount) × (x.hops < y.hops))))

-- The value at the end of an arc of this cost, where there is no limit.
abbrev pub extended : Value → ℕ → Value
extended x cost = record { class = x.class; amount = x.amount + cost; hops = x.hops + 1 }

-- The limits: 2^60 for the amount, and the greatest number of vertices for the hops.
pub record IsWithin (x : Value) : Type 0 where
  pub amount : x.amount ≤ 1152921504606846976
  pub hops : x.hops ≤ 1048576

-- only the source, in class 0
abbrev pub from_source : ℕ → ℕ → Option ℕ
from_source source v = if v == source then Some 0 else None

-- The cell has a value, and it is at most this one.
abbrev pub HasAtMost : Option Value → Value → Type 0
HasAtMost None y = ⊥
HasAtMost (Some x) y = AtMost x y

-- Amount and hops in one number, which orders as the pair does while hops stay below 2^21. An arc raises it.
abbrev pub measure : Value → ℕ
measure x = x.amount * 2097152 + x.hops

-- The value of the walk that has no arc.
abbrev pub start_value : ℕ → Value
start_value class = record { class = class; amount = 0; hops = 0 }
