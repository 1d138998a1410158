use Rattle.std.proofs.Common.{ℕ, ◌+◌, ◌≤◌, [], ◌∷◌, get_or, refl, arith, All}
use Rattle.std.proofs.lemmas.List.Elements.{All-from_recursion}
use Rattle.pg_base.specs.Graph.{arcs_of}
use Rattle.pg_base.specs.Examples.{arc, path_edges, triangle_edges}
use Rattle.pg_base.proofs.WalkLemmas.{least_weight_by}
use Rattle.pg_base.proofs.ExampleWalks.{path_to_2, path_to_3, path_apart, triangle_to_3}
use Rattle.pg_base.proofs.laws.least_weights.Goals as goal

-- The least weights from vertex 1, by vertex.
abbrev on_path : ℕ → ℕ
on_path v = get_or (0 ∷ 0 ∷ 5 ∷ 7 ∷ []) v 0

abbrev on_triangle : ℕ → ℕ
on_triangle v = get_or (0 ∷ 0 ∷ 4 ∷ 4 ∷ []) v 0

path_is_slow : All (λ a. on_path a.to ≤ on_path a.from + a.weight) (arcs_of path_edges)
path_is_slow =
    All-from_recursion (λ a. on_path a.to ≤ on_path a.from + a.weight) (arcs_of path_edges)
    (omega arith, (omega arith, (omega arith, (omega arith, tt))))

triangle_is_slow : All (λ a. on_triangle a.to ≤ on_triangle a.from + a.weight) (arcs_of triangle_edges)
triangle_is_slow =
    All-from_recursion (λ a. on_triangle a.to ≤ on_triangle a.from + a.weight) (arcs_of triangle_edges)
    (omega arith, (omega arith, (omega arith, (omega arith, (omega arith, (omega arith, tt))))))

pub returns-clause-path_2 : goal.returns-clause-path_2
returns-clause-path_2 c = least_weight_by on_path (arcs_of path_edges) 1 2 5 (arc 1 2 5 ∷ []) path_is_slow path_to_2 refl (omega arith)

pub returns-clause-path_3 : goal.returns-clause-path_3
returns-clause-path_3 c = least_weight_by on_path (arcs_of path_edges) 1 3 7 (arc 1 2 5 ∷ arc 2 3 2 ∷ []) path_is_slow path_to_3 refl (omega arith)

pub returns-clause-path_4 : goal.returns-clause-path_4
returns-clause-path_4 c = path_apart

pub returns-clause-triangle_3 : goal.returns-clause-triangle_3
returns-clause-triangle_3 c = least_weight_by on_triangle (arcs_of triangle_edges) 1 3 4 (arc 1 3 4 ∷ []) triangle_is_slow triangle_to_3 refl (omega arith)
