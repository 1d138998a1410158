use Rattle.std.proofs.Common.{◌+◌, ◌-◌, ◌≤◌, [], ◌∷◌, min, refl, arith, All}
use Rattle.std.proofs.lemmas.List.Elements.{All-from_recursion}
use Rattle.pg_base.specs.Graph.{arcs_of}
use Rattle.pg_base.specs.Examples.{arc, path_edges, triangle_edges}
use Rattle.pg_base.proofs.WalkLemmas.{least_arcs_by}
use Rattle.pg_base.proofs.ExampleWalks.{path_to_2, path_to_3, path_apart, triangle_to_2, triangle_to_3}
use Rattle.pg_base.proofs.laws.least_arcs.Goals as goal

path_is_slow : All (λ a. a.to - 1 ≤ (a.from - 1) + 1) (arcs_of path_edges)
path_is_slow =
    All-from_recursion (λ a. a.to - 1 ≤ (a.from - 1) + 1) (arcs_of path_edges)
    (omega arith, (omega arith, (omega arith, (omega arith, tt))))

triangle_is_slow : All (λ a. min 1 (a.to - 1) ≤ min 1 (a.from - 1) + 1) (arcs_of triangle_edges)
triangle_is_slow =
    All-from_recursion (λ a. min 1 (a.to - 1) ≤ min 1 (a.from - 1) + 1) (arcs_of triangle_edges)
    (omega arith, (omega arith, (omega arith, (omega arith, (omega arith, (omega arith, tt))))))

pub returns-clause-path_2 : goal.returns-clause-path_2
returns-clause-path_2 c = least_arcs_by (λ v. v - 1) (arcs_of path_edges) 1 2 1 (arc 1 2 5 ∷ []) path_is_slow path_to_2 refl (omega arith)

pub returns-clause-path_3 : goal.returns-clause-path_3
returns-clause-path_3 c = least_arcs_by (λ v. v - 1) (arcs_of path_edges) 1 3 2 (arc 1 2 5 ∷ arc 2 3 2 ∷ []) path_is_slow path_to_3 refl (omega arith)

pub returns-clause-path_4 : goal.returns-clause-path_4
returns-clause-path_4 c = path_apart

pub returns-clause-triangle_2 : goal.returns-clause-triangle_2
returns-clause-triangle_2 c = least_arcs_by (λ v. min 1 (v - 1)) (arcs_of triangle_edges) 1 2 1 (arc 1 2 4 ∷ []) triangle_is_slow triangle_to_2 refl (omega arith)

pub returns-clause-triangle_3 : goal.returns-clause-triangle_3
returns-clause-triangle_3 c = least_arcs_by (λ v. min 1 (v - 1)) (arcs_of triangle_edges) 1 3 1 (arc 1 3 4 ∷ []) triangle_is_slow triangle_to_3 refl (omega arith)
