-- Values by place after one was set.
use Rattle.std.proofs.Common.{◌≡◌, ◌≢◌, ℕ, zero, suc, ◌<◌, List, [], ◌∷◌, length, refl, ap, arith, Option, Some, None}
use Rattle.std.specs.Prelude.{slice_set}
use Rattle.pg_label.specs.declared.values.Value.{Value}
use Rattle.pg_label.specs.Values.{AtMost, HasAtMost, IsWithin}
use Rattle.pg_relax.specs.Tables.{shown, value_at}
use Rattle.pg_relax.specs.Frontiers.{HasBelow}

pub shown_within : (y : Value) → IsWithin y → shown y ≡ Some y
shown_within y w = search arith

pub set_here : (values : List Value) (place : ℕ) (y : Value) → place < length values → IsWithin y → value_at (slice_set values place y) place ≡ Some y
set_here [] place y h w = absurd (omega arith)
set_here (v ∷ vs) zero y h w = shown_within y w
set_here (v ∷ vs) (suc place) y h w = set_here vs place y (omega arith) w

pub set_else : (values : List Value) (place other : ℕ) (y : Value) → other ≢ place → value_at (slice_set values place y) other ≡ value_at values other
set_else [] place other y h = refl
set_else (v ∷ vs) zero zero y h = absurd (h refl)
set_else (v ∷ vs) zero (suc other) y h = refl
set_else (v ∷ vs) (suc place) zero y h = refl
set_else (v ∷ vs) (suc place) (suc other) y h = set_else vs place other y (λ e. h (ap suc e))

pub below_falls : (y z : Value) (c : Option Value) → HasBelow y c → HasAtMost c z → AtMost y z
below_falls y z None b h = absurd h
below_falls y z (Some x) b h = omega arith
