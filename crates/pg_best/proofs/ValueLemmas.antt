-- The order of values, and induction along it.
use Rattle.std.proofs.Common.{◌≡◌, ℕ, zero, suc, ◌<◌, ◌≤◌, Option, Some, None, refl, inl, inr, arith}
use Rattle.std.proofs.lemmas.Bool.{cases_lt}
use Rattle.pg_label.specs.declared.values.Value.{Value}
use Rattle.pg_label.specs.Values.{AtMost, Below, HasAtMost, IsWithin, start_value, extended}

pub most_refl : (x : Value) → AtMost x x
most_refl x = omega arith

pub most_trans : (x y z : Value) → AtMost x y → AtMost y z → AtMost x z
most_trans x y z p q = omega arith

pub has_most : (c : Option Value) (y z : Value) → HasAtMost c y → AtMost y z → HasAtMost c z
has_most None y z h m = absurd h
has_most (Some x) y z h m = most_trans x y z h m

pub value_in : (c : Option Value) (y : Value) → HasAtMost c y → (x : Value) × (c ≡ Some x) × AtMost x y
value_in None y h = absurd h
value_in (Some x) y h = (x, refl, h)

pub start_most : (y : Value) → AtMost (start_value y.class) y
start_most y = omega arith

-- an arc keeps the order
pub extended_most : (x y : Value) (cost : ℕ) → AtMost x y → AtMost (extended x cost) (extended y cost)
extended_most x y cost h = omega arith

pub below_by_hops : (x y : Value) → x.class ≡ y.class → x.amount ≤ y.amount → x.hops < y.hops → Below x y
below_by_hops x y e m l = elim (cases_lt x.amount y.amount) [
  | inl less ↦ inr (e, inl less)
  | inr same ↦ inr (e, inr (omega arith, l))
]

-- a value within the limits is above any at most it that is not within them
pub below_by_limits : (x y : Value) → AtMost x y → IsWithin y → (IsWithin x → ⊥) → Below x y
below_by_limits x y m w out = elim (cases_lt x.class y.class) [
  | inl less ↦ inl less
  | inr tied ↦ elim (cases_lt x.amount y.amount) [
    | inl less ↦ inr (omega arith, inl less)
    | inr same ↦ absurd (out (omega arith))
  ]
]

module _ (P : Value → Type 0) (step : (y : Value) → ((x : Value) → Below x y → P x) → P y) where
  by_hops : (c a : ℕ) → ((x : Value) → x.class < c → P x) → ((x : Value) → x.class ≡ c → x.amount < a → P x)
      → (h : ℕ) (y : Value) → y.class ≡ c → y.amount ≡ a → y.hops < h → P y
  by_hops c a lesser lighter zero y e f l = absurd (omega arith)
  by_hops c a lesser lighter (suc h) y e f l = step y (λ x b. elim b [
    | inl less ↦ lesser x (omega arith)
    | inr tied ↦ elim tied.1 [
      | inl less ↦ lighter x (omega arith) (omega arith)
      | inr few ↦ by_hops c a lesser lighter h x (omega arith) (omega arith) (omega arith)
    ]
  ])

  by_amounts : (c : ℕ) → ((x : Value) → x.class < c → P x) → (a : ℕ) (y : Value) → y.class ≡ c → y.amount < a → P y
  by_amounts c lesser zero y e l = absurd (omega arith)
  by_amounts c lesser (suc a) y e l =
      by_hops c y.amount lesser (λ x f m. by_amounts c lesser a x f (omega arith)) (suc y.hops) y e refl (omega arith)

  by_classes : (c : ℕ) (y : Value) → y.class < c → P y
  by_classes zero y l = absurd (omega arith)
  by_classes (suc c) y l = by_amounts y.class (λ x m. by_classes c x (omega arith)) (suc y.amount) y refl (omega arith)

  -- What holds of a value where it holds of all below it holds of each.
  pub by_values : (y : Value) → P y
  by_values y = by_classes (suc y.class) y (omega arith)
