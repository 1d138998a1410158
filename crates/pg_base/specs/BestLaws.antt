-- What the best values by hops, by weights and by roots are.
-- Source: Cormen, Leiserson, Rivest and Stein, Introduction to Algorithms, chapters 22.2 and 24.
use Rattle.std.specs.Prelude.{◌≡◌, ℕ, Option, Some, None, List}
use Rattle.pg_base.specs.Graph.{Arc}
use Rattle.pg_base.specs.Walk.{LeastArcs, LeastWeight, IsLowest}
use Rattle.pg_base.specs.Best.{Value, Label, Best, hops_from, weight_from, roots}

abbrev pub amount_in : Option Value → Option ℕ
amount_in None = None
amount_in (Some x) = Some x.amount

-- No two values are best at a vertex.
abbrev pub BestIsOne : Type 0
BestIsOne = (label : Label) (arcs : List Arc) (v : ℕ) (b c : Option Value) → Best label arcs v b → Best label arcs v c → b ≡ c

abbrev pub HopsAreLeast : Type 0
HopsAreLeast = (arcs : List Arc) (source v : ℕ) (c : Option Value) → Best (hops_from source) arcs v c → LeastArcs arcs source v (amount_in c)

abbrev pub WeightsAreLeast : Type 0
WeightsAreLeast = (arcs : List Arc) (source v : ℕ) (c : Option Value) → Best (weight_from source) arcs v c → LeastWeight arcs source v (amount_in c)

abbrev pub RootsAreLowest : Type 0
RootsAreLowest = (arcs : List Arc) (v : ℕ) (c : Option Value) → Best roots arcs v c → (x : Value) × (c ≡ Some x) × IsLowest arcs v x.class
