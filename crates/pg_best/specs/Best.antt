-- The least value over the walks to a vertex, from whatever started vertex.
use Rattle.std.specs.Prelude.{◌≡◌, ℕ, Option, Some, None, List, length, sum_by}
use Rattle.pg_base.specs.Graph.{Arc}
use Rattle.pg_base.specs.Walk.{IsWalk}
use Rattle.pg_label.specs.declared.values.Value.{Value}
use Rattle.pg_label.specs.Values.{AtMost}

-- In which class a vertex starts, if it does, and what an arc of a weight costs.
pub record Label : Type 0 where
  pub start : ℕ → Option ℕ
  pub add : ℕ → ℕ

abbrev pub cost_of : Label → List Arc → ℕ
cost_of label walk = sum_by (λ a. label.add a.weight) walk

-- Some walk from a vertex started in this class leads to v, with this cost and number of arcs.
pub record Belongs (label : Label) (arcs : List Arc) (v : ℕ) (x : Value) : Type 0 where
  pub from : ℕ
  pub walk : List Arc
  pub joins : IsWalk arcs from walk v
  pub started : label.start from ≡ Some x.class
  pub amount : cost_of label walk ≡ x.amount
  pub hops : length walk ≡ x.hops

pub record IsBest (label : Label) (arcs : List Arc) (v : ℕ) (x : Value) : Type 0 where
  pub belongs : Belongs label arcs v x
  pub least : (y : Value) → Belongs label arcs v y → AtMost x y

abbrev pub Best : Label → List Arc → ℕ → Option Value → Type 0
Best label arcs v None = (x : Value) → Belongs label arcs v x → ⊥
Best label arcs v (Some x) = IsBest label arcs v x
