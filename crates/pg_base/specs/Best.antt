-- The least value over the walks to a vertex, from whatever vertices start, by class, then amount, then hops.
-- Source: Cormen, Leiserson, Rivest and Stein, Introduction to Algorithms, chapter 24 (shortest-path weights). The
-- classes of starts, and hops that decide between equal amounts, are this project's own.
use Rattle.std.specs.Prelude.{◌≡◌, ◌==◌, ℕ, ◌≤◌, Option, Some, None, List, length, sum_by, if◌then◌else◌}
use Rattle.pg_base.specs.Graph.{Arc}
use Rattle.pg_base.specs.Walk.{IsWalk}

-- What a walk gives its end: the class of its start, the sum of its costs, and the number of its arcs.
pub record Value : Type 0 where
  pub class : ℕ
  pub amount : ℕ
  pub hops : ℕ

-- x is at most y in the order of these triples.
pub record AtMost (x y : Value) : Type 0 where
  pub class : x.class ≤ y.class
  pub amount : x.class ≡ y.class → x.amount ≤ y.amount
  pub hops : x.class ≡ y.class → x.amount ≡ y.amount → x.hops ≤ y.hops

-- In which class a vertex starts, if it does, and what an arc of a weight costs.
pub record Label : Type 0 where
  pub start : ℕ → Option ℕ
  pub add : ℕ → ℕ

abbrev pub cost_of : Label → List Arc → ℕ
cost_of label walk = sum_by (λ a. label.add a.weight) walk

-- Some walk from a vertex that starts in this class leads to v, with this cost and number of arcs.
pub record Belongs (label : Label) (arcs : List Arc) (v : ℕ) (x : Value) : Type 0 where
  pub from : ℕ
  pub walk : List Arc
  pub joins : IsWalk arcs from walk v
  pub started : label.start from ≡ Some x.class
  pub amount : cost_of label walk ≡ x.amount
  pub hops : length walk ≡ x.hops

pub record IsBest (label : Label) (arcs : List Arc) (v : ℕ) (x : Value) : Type 0 where
  pub belongs : Belongs label arcs v x
  pub least : (y : Value) → Belongs label arcs v y → AtMost x y

-- The least value that belongs to a walk to v, absent where no walk from a vertex that starts leads there.
abbrev pub Best : Label → List Arc → ℕ → Option Value → Type 0
Best label arcs v None = (x : Value) → Belongs label arcs v x → ⊥
Best label arcs v (Some x) = IsBest label arcs v x

-- The source alone starts, in class 0.
abbrev pub from_source : ℕ → ℕ → Option ℕ
from_source source v = if v == source then Some 0 else None

-- Each arc costs 1.
abbrev pub hops_from : ℕ → Label
hops_from source = record { start = from_source source; add = λ w. 1 }

-- Each arc costs its weight.
abbrev pub weight_from : ℕ → Label
weight_from source = record { start = from_source source; add = λ w. w }

-- Each vertex starts, in a class of its own.
abbrev pub roots : Label
roots = record { start = λ v. Some v; add = λ w. 1 }
