use Rattle.std.proofs.Common.{ℕ, zero, suc, ◌-◌, ◌+◌, ◌<◌, ◌≤◌, Option, Some, None, List, [], ◌∷◌, get_or, refl, arith, All}
use Rattle.std.proofs.lemmas.List.Elements.{All-from_recursion}
use Rattle.pg_base.specs.Graph.{arcs_of}
use Rattle.pg_base.specs.Walk.{LeastArcs}
use Rattle.pg_base.specs.Examples.{arc, path_edges}
use Rattle.pg_base.proofs.WalkLemmas.{least_arcs_by}
use Rattle.pg_base.proofs.ExampleWalks.{path_to_2, path_to_3, path_apart}
use Rattle.pg_base.proofs.laws.distances.Goals as goal

abbrev all_four : List (Option ℕ)
all_four = Some 0 ∷ Some 1 ∷ Some 2 ∷ None ∷ []

path_is_slow : All (λ a. a.to - 1 ≤ (a.from - 1) + 1) (arcs_of path_edges)
path_is_slow =
    All-from_recursion (λ a. a.to - 1 ≤ (a.from - 1) + 1) (arcs_of path_edges)
    (omega arith, (omega arith, (omega arith, (omega arith, tt))))

least_each : (v : ℕ) → v < 4 → LeastArcs (arcs_of path_edges) 1 (v + 1) (get_or all_four v None)
least_each zero below = least_arcs_by (λ v. v - 1) (arcs_of path_edges) 1 1 0 [] path_is_slow refl refl (omega arith)
least_each (suc zero) below = least_arcs_by (λ v. v - 1) (arcs_of path_edges) 1 2 1 (arc 1 2 5 ∷ []) path_is_slow path_to_2 refl (omega arith)
least_each (suc (suc zero)) below = least_arcs_by (λ v. v - 1) (arcs_of path_edges) 1 3 2 (arc 1 2 5 ∷ arc 2 3 2 ∷ []) path_is_slow path_to_3 refl (omega arith)
least_each (suc (suc (suc zero))) below = path_apart
least_each (suc (suc (suc (suc v)))) below = absurd (omega arith)

pub returns-clause-path : goal.returns-clause-path
returns-clause-path c = record { count = refl; each = least_each }

pub returns-clause-past : goal.returns-clause-past
returns-clause-past c = λ are. omega (arith, are.count)
