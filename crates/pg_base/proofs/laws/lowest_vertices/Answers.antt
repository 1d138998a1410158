use Rattle.std.proofs.Common.{◌<◌, [], ◌∷◌, refl, arith, All}
use Rattle.std.proofs.lemmas.List.Elements.{All-from_recursion}
use Rattle.pg_base.specs.Graph.{arcs_of}
use Rattle.pg_base.specs.Examples.{arc, path_edges}
use Rattle.pg_base.proofs.WalkLemmas.{lowest_by}
use Rattle.pg_base.proofs.ExampleWalks.{path_to_2, path_to_3}
use Rattle.pg_base.proofs.laws.lowest_vertices.Goals as goal

below_1 : All (λ a. a.from < 1 → a.to < 1) (arcs_of path_edges)
below_1 =
    All-from_recursion (λ a. a.from < 1 → a.to < 1) (arcs_of path_edges)
    ((λ h. omega arith), ((λ h. omega arith), ((λ h. omega arith), ((λ h. omega arith), tt))))

below_4 : All (λ a. a.from < 4 → a.to < 4) (arcs_of path_edges)
below_4 =
    All-from_recursion (λ a. a.from < 4 → a.to < 4) (arcs_of path_edges)
    ((λ h. omega arith), ((λ h. omega arith), ((λ h. omega arith), ((λ h. omega arith), tt))))

pub returns-clause-path_1 : goal.returns-clause-path_1
returns-clause-path_1 c = lowest_by (arcs_of path_edges) 1 1 below_1 (omega arith) ([], refl)

pub returns-clause-path_2 : goal.returns-clause-path_2
returns-clause-path_2 c = lowest_by (arcs_of path_edges) 1 2 below_1 (omega arith) (arc 1 2 5 ∷ [], path_to_2)

pub returns-clause-path_3 : goal.returns-clause-path_3
returns-clause-path_3 c = lowest_by (arcs_of path_edges) 1 3 below_1 (omega arith) (arc 1 2 5 ∷ arc 2 3 2 ∷ [], path_to_3)

pub returns-clause-path_4 : goal.returns-clause-path_4
returns-clause-path_4 c = lowest_by (arcs_of path_edges) 4 4 below_4 (omega arith) ([], refl)

pub returns-clause-not_itself : goal.returns-clause-not_itself
returns-clause-not_itself c = λ is. omega (arith, is.lowest 1 (arc 1 2 5 ∷ arc 2 3 2 ∷ [], path_to_3))
