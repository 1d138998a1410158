-- Walks, the least of them, and what they reach.
-- Source: Cormen, Leiserson, Rivest and Stein, Introduction to Algorithms, appendix B.4 (walks), 22.2 and
-- 24 (least numbers of arcs, least weights).
use Rattle.std.specs.Prelude.{◌≡◌, ◌≢◌, ℕ, ◌≤◌, Option, Some, None, List, [], ◌∷◌, length, map, sum_by, AllPairs, Contains}
use Rattle.pg_base.specs.Graph.{Arc}

-- Arcs of the list, end to end, from s to v. The empty walk joins each vertex to itself.
abbrev pub IsWalk : List Arc → ℕ → List Arc → ℕ → Type 0
IsWalk arcs s [] v = s ≡ v
IsWalk arcs s (a ∷ walk) v = Contains arcs a × (a.from ≡ s) × IsWalk arcs a.to walk v

-- Some walk leads from s to v.
abbrev pub Joins : List Arc → ℕ → ℕ → Type 0
Joins arcs s v = (walk : List Arc) × IsWalk arcs s walk v

-- The vertices that a walk from s meets, in order.
abbrev pub vertices_of : ℕ → List Arc → List ℕ
vertices_of s walk = s ∷ map (λ a. a.to) walk

-- The walk meets no vertex twice.
abbrev pub IsSimple : ℕ → List Arc → Type 0
IsSimple s walk = AllPairs (λ x y. x ≢ y) (vertices_of s walk)

abbrev pub weight_of : List Arc → ℕ
weight_of walk = sum_by (λ a. a.weight) walk

-- Some walk from s to v has this measure, and none has less.
pub record IsLeast (measure : List Arc → ℕ) (arcs : List Arc) (s v k : ℕ) : Type 0 where
  pub walk : List Arc
  pub joins : IsWalk arcs s walk v
  pub attained : measure walk ≡ k
  pub least : (other : List Arc) → IsWalk arcs s other v → k ≤ measure other

-- The least measure of a walk from s to v, absent where no walk leads there.
abbrev pub Least : (List Arc → ℕ) → List Arc → ℕ → ℕ → Option ℕ → Type 0
Least measure arcs s v None = Joins arcs s v → ⊥
Least measure arcs s v (Some k) = IsLeast measure arcs s v k

abbrev pub LeastArcs : List Arc → ℕ → ℕ → Option ℕ → Type 0
LeastArcs arcs s v answer = Least length arcs s v answer

abbrev pub LeastWeight : List Arc → ℕ → ℕ → Option ℕ → Type 0
LeastWeight arcs s v answer = Least weight_of arcs s v answer

-- u is the least vertex from which a walk leads to v.
pub record IsLowest (arcs : List Arc) (v u : ℕ) : Type 0 where
  pub joins : Joins arcs u v
  pub lowest : (other : ℕ) → Joins arcs other v → u ≤ other
