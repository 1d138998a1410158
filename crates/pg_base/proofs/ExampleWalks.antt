-- Walks of the path and of the triangle.
use Rattle.std.proofs.Common.{◌≤◌, [], ◌∷◌, refl, arith}
use Rattle.std.proofs.lemmas.List.Elements.{All-from_recursion}
use Rattle.pg_base.specs.Graph.{arcs_of}
use Rattle.pg_base.specs.Walk.{IsWalk, Joins}
use Rattle.pg_base.specs.Examples.{arc, path_edges, triangle_edges}
use Rattle.pg_base.proofs.WalkLemmas.{apart_by_limit}

pub path_to_2 : IsWalk (arcs_of path_edges) 1 (arc 1 2 5 ∷ []) 2
path_to_2 = ((0, omega arith, refl), refl, refl)

pub path_to_3 : IsWalk (arcs_of path_edges) 1 (arc 1 2 5 ∷ arc 2 3 2 ∷ []) 3
path_to_3 = ((0, omega arith, refl), refl, ((2, omega arith, refl), refl, refl))

pub path_2_to_3 : IsWalk (arcs_of path_edges) 2 (arc 2 3 2 ∷ []) 3
path_2_to_3 = ((2, omega arith, refl), refl, refl)

pub path_apart : Joins (arcs_of path_edges) 1 4 → ⊥
path_apart =
    apart_by_limit 3 (arcs_of path_edges) 1 4
    (All-from_recursion (λ a. a.from ≤ 3 → a.to ≤ 3) (arcs_of path_edges)
    ((λ h. omega arith), ((λ h. omega arith), ((λ h. omega arith), ((λ h. omega arith), tt)))))
    (omega arith) (omega arith)

pub triangle_to_2 : IsWalk (arcs_of triangle_edges) 1 (arc 1 2 4 ∷ []) 2
triangle_to_2 = ((0, omega arith, refl), refl, refl)

pub triangle_to_3 : IsWalk (arcs_of triangle_edges) 1 (arc 1 3 4 ∷ []) 3
triangle_to_3 = ((2, omega arith, refl), refl, refl)
