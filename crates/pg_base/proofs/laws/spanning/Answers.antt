use Rattle.std.proofs.Common.{◌≤◌, [], ◌∷◌, refl, arith, All, Contains, rules}
use Rattle.std.proofs.lemmas.List.Elements.{All-from_recursion}
use Rattle.pg_base.specs.Graph.{arcs_of}
use Rattle.pg_base.specs.Walk.{Joins}
use Rattle.pg_base.specs.Examples.{arc, edge, path_edges, triangle_edges, triangle_tree}
use Rattle.pg_base.proofs.WalkLemmas.{apart_by_limit, walks_refine}
use Rattle.pg_base.proofs.ExampleWalks.{path_2_to_3}
use Rattle.pg_base.proofs.laws.spanning.Goals as goal

-- The tree joins the ends of each arc of the triangle: its own arcs at once, the others over vertex 1.
each_joined : All (λ a. Joins (arcs_of triangle_tree) a.from a.to) (arcs_of triangle_edges)
each_joined =
    All-from_recursion (λ a. Joins (arcs_of triangle_tree) a.from a.to) (arcs_of triangle_edges) (
      (arc 1 2 4 ∷ [], ((0, omega arith, refl), refl, refl)),
      (
        (arc 2 1 4 ∷ [], ((1, omega arith, refl), refl, refl)),
        (
          (arc 1 3 4 ∷ [], ((2, omega arith, refl), refl, refl)),
          (
            (arc 3 1 4 ∷ [], ((3, omega arith, refl), refl, refl)),
            (
              (arc 2 1 4 ∷ arc 1 3 4 ∷ [], ((1, omega arith, refl), refl, ((2, omega arith, refl), refl, refl))),
              ((arc 3 1 4 ∷ arc 1 2 4 ∷ [], ((3, omega arith, refl), refl, ((0, omega arith, refl), refl, refl))), tt),
            ),
          ),
        ),
      ),
    )

pub returns-clause-tree : goal.returns-clause-tree
returns-clause-tree c = record {
  among = All-from_recursion (Contains triangle_edges) triangle_tree ((0, omega arith, refl), ((1, omega arith, refl), tt));
  joins = walks_refine (arcs_of triangle_edges) (arcs_of triangle_tree) each_joined;
}

pub returns-clause-lacking : goal.returns-clause-lacking
returns-clause-lacking c = λ is.
    apart_by_limit 2 (arcs_of (edge 1 2 5 ∷ [])) 2 3
    (All-from_recursion (λ a. a.from ≤ 2 → a.to ≤ 2) (arcs_of (edge 1 2 5 ∷ [])) ((λ h. omega arith), ((λ h. omega arith), tt)))
    (omega arith) (omega arith) (is.joins 2 3 (arc 2 3 2 ∷ [], path_2_to_3))

no_third : Contains path_edges (edge 3 4 1) → ⊥
no_third among = search rules

pub returns-clause-foreign : goal.returns-clause-foreign
returns-clause-foreign c = λ is. no_third (is.among 2 (edge 0 0 0) (omega arith))
