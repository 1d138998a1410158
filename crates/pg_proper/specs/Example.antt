-- One edge, whose ends two ranks own: both take colour 0, and the greater end's rank finds the clash and gives 1. And
-- the same edge on one rank, which colours both ends in one pass.
use Rattle.std.specs.Prelude.{◌==◌, ◌-◌, cond, ℕ, zero, suc, List, [], ◌∷◌, Some, None}
use Rattle.pg_base.specs.declared.edges.Edge.{Edge}
use Rattle.pg_base.specs.Examples.{edge, graph}
use Rattle.pg_proper.specs.Passes.{Colours}
use Rattle.pg_proper.specs.Runs.{Run}

abbrev pub one_edge : List Edge
one_edge = edge 1 2 1 ∷ []

abbrev pub lists : ℕ → ℕ → List ℕ
lists r zero = suc r ∷ []
lists zero (suc j) = []
lists (suc r) (suc zero) = 2 ∷ []
lists (suc r) (suc (suc j)) = []

abbrev pub colours_after : ℕ → Colours
colours_after zero v = Some 0
colours_after (suc j) v = cond (v == 2) (Some 1) (Some 0)

-- Rank 0 owns vertex 1, and rank 1 owns vertex 2.
abbrev pub example : Run
example = record {
  graph = graph 2 one_edge;
  ranks = 2;
  owner = λ v. v - 1;
  own = λ r. suc r ∷ [];
  list = lists;
  colours = λ r j. colours_after j;
  seen = λ r j. colours_after j;
}

abbrev pub lone_list : ℕ → List ℕ
lone_list zero = 1 ∷ 2 ∷ []
lone_list (suc j) = []

abbrev pub lone_example : Run
lone_example = record {
  graph = graph 2 one_edge;
  ranks = 1;
  owner = λ v. 0;
  own = λ r. 1 ∷ 2 ∷ [];
  list = λ r j. lone_list j;
  colours = λ r j v. Some (v - 1);
  seen = λ r j v. None;
}

-- In both, vertex 1 ends with colour 0, and vertex 2 with 1.
abbrev pub example_answer : ℕ → ℕ
example_answer v = v - 1
