-- The three labels, and what the best values by them are.
use Rattle.std.specs.Prelude.{◌≡◌, ◌==◌, ℕ, Option, Some, None, List, if◌then◌else◌}
use Rattle.pg_base.specs.Graph.{Arc}
use Rattle.pg_base.specs.Walk.{LeastArcs, LeastWeight, IsLowest}
use Rattle.pg_label.specs.declared.values.Value.{Value}
use Rattle.pg_best.specs.Best.{Label, Best}

-- only the source, in class 0
abbrev pub from_source : ℕ → ℕ → Option ℕ
from_source source v = if v == source then Some 0 else None

abbrev pub hops_from : ℕ → Label
hops_from source = record { start = from_source source; add = λ w. 1 }

abbrev pub weight_from : ℕ → Label
weight_from source = record { start = from_source source; add = λ w. w }

-- each vertex in a class of its own
abbrev pub roots : Label
roots = record { start = λ v. Some v; add = λ w. 1 }

abbrev pub amount_in : Option Value → Option ℕ
amount_in None = None
amount_in (Some x) = Some x.amount

abbrev pub HopsAreLeast : Type 0
HopsAreLeast = (arcs : List Arc) (source v : ℕ) (c : Option Value) → Best (hops_from source) arcs v c → LeastArcs arcs source v (amount_in c)

abbrev pub WeightsAreLeast : Type 0
WeightsAreLeast = (arcs : List Arc) (source v : ℕ) (c : Option Value) → Best (weight_from source) arcs v c → LeastWeight arcs source v (amount_in c)

abbrev pub RootsAreLowest : Type 0
RootsAreLowest = (arcs : List Arc) (v : ℕ) (c : Option Value) → Best roots arcs v c → (x : Value) × (c ≡ Some x) × IsLowest arcs v x.class
