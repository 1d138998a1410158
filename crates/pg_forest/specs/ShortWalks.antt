-- Any walk can be shortened to one that meets no vertex twice, and such a walk has few arcs.
-- Source: Cormen, Leiserson, Rivest and Stein, Introduction to Algorithms, appendix B.4.
use Rattle.std.specs.Prelude.{ℕ, ◌<◌, ◌≤◌, List, length, sum_by, All}
use Rattle.pg_base.specs.Graph.{Arc}
use Rattle.pg_base.specs.Walk.{IsWalk, IsSimple}

-- A walk from s to v that meets no vertex twice and has no greater sum of any costs than another.
pub record Shortens (arcs : List Arc) (s v : ℕ) (walk : List Arc) : Type 0 where
  pub short : List Arc
  pub joins : IsWalk arcs s short v
  pub simple : IsSimple s short
  pub cheap : (cost : Arc → ℕ) → sum_by cost short ≤ sum_by cost walk

abbrev pub WalksShorten : Type 0
WalksShorten = (arcs : List Arc) (s v : ℕ) (walk : List Arc) → IsWalk arcs s walk v → Shortens arcs s v walk

-- Where all arcs lead to vertices 1 to n, a walk that meets no vertex twice has fewer than n arcs.
abbrev pub ShortWalksEnd : Type 0
ShortWalksEnd = (n : ℕ) (arcs : List Arc) → All (λ a. (1 ≤ a.to) × (a.to ≤ n)) arcs → (s v : ℕ) (walk : List Arc) → 1 ≤ s → s ≤ n → IsWalk arcs s walk v → IsSimple s walk → length walk < n
