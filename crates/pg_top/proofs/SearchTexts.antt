-- The least numbers of arcs on a path, and other columns on one with weights.
use Rattle.std.proofs.Common.{◌≡◌, ℕ, zero, suc, ◌+◌, ◌-◌, ◌<◌, ◌≤◌, Option, Some, None, List, [], ◌∷◌, get_or, refl, ap, arith, All}
use Rattle.std.specs.Prelude.{codes}
use Rattle.std.specs.Fmt.{digits}
use Rattle.std.proofs.lemmas.List.Elements.{All-from_recursion}
use Rattle.pg_base.specs.Graph.{Arc, arcs_of}
use Rattle.pg_base.specs.Examples.{arc}
use Rattle.pg_base.specs.Walk.{IsWalk, Joins, LeastArcs, LeastWeight}
use Rattle.pg_base.specs.Examples.{graph, path_edges}
use Rattle.pg_base.proofs.WalkLemmas.{apart_by_limit, least_arcs_by, least_weight_by, lowest_by}
use Rattle.pg_words.specs.declared.plans.Algorithm.TheVariants.{Bfs, Sssp, Components}
use Rattle.pg_top.specs.Text.{IsAnswerText, IsRootOf}
use Rattle.pg_top.proofs.OneText.{text_is_one}
use Rattle.pg_metis.specs.Examples.{path}
use Rattle.pg_top.specs.Examples.{path_and_one}

-- The arcs of the path, which both graphs have.
abbrev path_arcs : List Arc
path_arcs = arcs_of path.edges

rises_from_1 : All (λ a. a.to - 1 ≤ (a.from - 1) + 1) path_arcs
rises_from_1 =
    All-from_recursion (λ a. a.to - 1 ≤ (a.from - 1) + 1) path_arcs
    (omega arith, (omega arith, (omega arith, (omega arith, tt))))

-- How far a vertex is from vertex 2.
abbrev away : ℕ → ℕ
away v = (v - 2) + (2 - v)

rises_from_2 : All (λ a. away a.to ≤ away a.from + 1) path_arcs
rises_from_2 =
    All-from_recursion (λ a. away a.to ≤ away a.from + 1) path_arcs
    (omega arith, (omega arith, (omega arith, (omega arith, tt))))

from_1_to_1 : LeastArcs path_arcs 1 1 (Some 0)
from_1_to_1 = least_arcs_by (λ v. v - 1) path_arcs 1 1 0 [] rises_from_1 refl refl (omega arith)

from_1_to_2 : LeastArcs path_arcs 1 2 (Some 1)
from_1_to_2 = least_arcs_by (λ v. v - 1) path_arcs 1 2 1 (arc 1 2 1 ∷ []) rises_from_1 ((0, omega arith, refl), refl, refl) refl (omega arith)

from_1_to_3 : LeastArcs path_arcs 1 3 (Some 2)
from_1_to_3 =
    least_arcs_by (λ v. v - 1) path_arcs 1 3 2 (arc 1 2 1 ∷ arc 2 3 1 ∷ []) rises_from_1
    ((0, omega arith, refl), refl, ((2, omega arith, refl), refl, refl)) refl (omega arith)

from_1_to_4 : LeastArcs path_arcs 1 4 None
from_1_to_4 =
    apart_by_limit 3 path_arcs 1 4
    (All-from_recursion (λ a. a.from ≤ 3 → a.to ≤ 3) path_arcs ((λ h. omega arith), ((λ h. omega arith), ((λ h. omega arith), ((λ h. omega arith), tt)))))
    (omega arith) (omega arith)

from_2_to_1 : LeastArcs path_arcs 2 1 (Some 1)
from_2_to_1 = least_arcs_by away path_arcs 2 1 1 (arc 2 1 1 ∷ []) rises_from_2 ((1, omega arith, refl), refl, refl) refl (omega arith)

from_2_to_2 : LeastArcs path_arcs 2 2 (Some 0)
from_2_to_2 = least_arcs_by away path_arcs 2 2 0 [] rises_from_2 refl refl (omega arith)

from_2_to_3 : LeastArcs path_arcs 2 3 (Some 1)
from_2_to_3 = least_arcs_by away path_arcs 2 3 1 (arc 2 3 1 ∷ []) rises_from_2 ((2, omega arith, refl), refl, refl) refl (omega arith)

abbrev distances_1 : List (Option ℕ)
distances_1 = Some 0 ∷ Some 1 ∷ Some 2 ∷ []

abbrev distances_2 : List (Option ℕ)
distances_2 = Some 1 ∷ Some 0 ∷ Some 1 ∷ []

abbrev distances_alone : List (Option ℕ)
distances_alone = Some 0 ∷ Some 1 ∷ Some 2 ∷ None ∷ []

least_from_1 : (i : ℕ) → i < 3 → LeastArcs path_arcs 1 (i + 1) (get_or distances_1 i None)
least_from_1 zero below = from_1_to_1
least_from_1 (suc zero) below = from_1_to_2
least_from_1 (suc (suc zero)) below = from_1_to_3
least_from_1 (suc (suc (suc i))) below = absurd (omega arith)

least_from_2 : (i : ℕ) → i < 3 → LeastArcs path_arcs 2 (i + 1) (get_or distances_2 i None)
least_from_2 zero below = from_2_to_1
least_from_2 (suc zero) below = from_2_to_2
least_from_2 (suc (suc zero)) below = from_2_to_3
least_from_2 (suc (suc (suc i))) below = absurd (omega arith)

least_alone : (i : ℕ) → i < 4 → LeastArcs path_arcs 1 (i + 1) (get_or distances_alone i None)
least_alone zero below = from_1_to_1
least_alone (suc zero) below = from_1_to_2
least_alone (suc (suc zero)) below = from_1_to_3
least_alone (suc (suc (suc zero))) below = from_1_to_4
least_alone (suc (suc (suc (suc i)))) below = absurd (omega arith)

pub text_from_1 : IsAnswerText Bfs 1 1 path (codes "0\n1\n2\n")
unfolding digits
text_from_1 = record { inside = record { first = λ _. omega arith; last = λ _. omega arith }; answers = distances_1; right = record { count = refl; each = least_from_1 }; spelled = refl }

pub text_from_2 : IsAnswerText Bfs 1 2 path (codes "1\n0\n1\n")
unfolding digits
text_from_2 = record { inside = record { first = λ _. omega arith; last = λ _. omega arith }; answers = distances_2; right = record { count = refl; each = least_from_2 }; spelled = refl }

pub text_alone : IsAnswerText Bfs 1 1 path_and_one (codes "0\n1\n2\n-\n")
unfolding digits
text_alone = record { inside = record { first = λ _. omega arith; last = λ _. omega arith }; answers = distances_alone; right = record { count = refl; each = least_alone }; spelled = refl }

pub other_text : IsAnswerText Bfs 1 1 path (codes "0\n1\n1\n") → ⊥
other_text p =
    let same : codes "0\n1\n2\n" ≡ codes "0\n1\n1\n" = text_is_one Bfs 1 1 1 path _ _ (λ e. absurd (cc e)) text_from_1 p in
    let fifth : ◌≡◌ {A = ℕ} 50 49 = ap (λ (text : List ℕ). get_or text 4 0) same in
    omega arith

-- The least weights from vertex 1 of a path with weights, by vertex.
abbrev by_weight : ℕ → ℕ
by_weight v = get_or (0 ∷ 0 ∷ 5 ∷ 7 ∷ []) v 0

rises_by_weight : All (λ a. by_weight a.to ≤ by_weight a.from + a.weight) (arcs_of path_edges)
rises_by_weight =
    All-from_recursion (λ a. by_weight a.to ≤ by_weight a.from + a.weight) (arcs_of path_edges)
    (omega arith, (omega arith, (omega arith, (omega arith, tt))))

path_to_2 : IsWalk (arcs_of path_edges) 1 (arc 1 2 5 ∷ []) 2
path_to_2 = ((0, omega arith, refl), refl, refl)

path_to_3 : IsWalk (arcs_of path_edges) 1 (arc 1 2 5 ∷ arc 2 3 2 ∷ []) 3
path_to_3 = ((0, omega arith, refl), refl, ((2, omega arith, refl), refl, refl))

path_apart : Joins (arcs_of path_edges) 1 4 → ⊥
path_apart =
    apart_by_limit 3 (arcs_of path_edges) 1 4
    (All-from_recursion (λ a. a.from ≤ 3 → a.to ≤ 3) (arcs_of path_edges) ((λ h. omega arith), ((λ h. omega arith), ((λ h. omega arith), ((λ h. omega arith), tt)))))
    (omega arith) (omega arith)

abbrev weights : List (Option ℕ)
weights = Some 0 ∷ Some 5 ∷ Some 7 ∷ None ∷ []

least_weights : (i : ℕ) → i < 4 → LeastWeight (arcs_of path_edges) 1 (i + 1) (get_or weights i None)
least_weights zero below = least_weight_by by_weight (arcs_of path_edges) 1 1 0 [] rises_by_weight refl refl (omega arith)
least_weights (suc zero) below = least_weight_by by_weight (arcs_of path_edges) 1 2 5 (arc 1 2 5 ∷ []) rises_by_weight path_to_2 refl (omega arith)
least_weights (suc (suc zero)) below = least_weight_by by_weight (arcs_of path_edges) 1 3 7 (arc 1 2 5 ∷ arc 2 3 2 ∷ []) rises_by_weight path_to_3 refl (omega arith)
least_weights (suc (suc (suc zero))) below = path_apart
least_weights (suc (suc (suc (suc i)))) below = absurd (omega arith)

pub text_of_weights : IsAnswerText Sssp 1 1 (graph 4 path_edges) (codes "0\n5\n7\n-\n")
unfolding digits
text_of_weights = record { inside = record { first = λ _. omega arith; last = λ _. omega arith }; answers = weights; right = record { count = refl; each = least_weights }; spelled = refl }

pub no_text_of_arcs : IsAnswerText Sssp 1 1 (graph 4 path_edges) (codes "0\n1\n2\n-\n") → ⊥
no_text_of_arcs p =
    let same : codes "0\n5\n7\n-\n" ≡ codes "0\n1\n2\n-\n" = text_is_one Sssp 1 1 1 (graph 4 path_edges) _ _ (λ e. absurd (cc e)) text_of_weights p in
    let third : ◌≡◌ {A = ℕ} 53 49 = ap (λ (text : List ℕ). get_or text 2 0) same in
    omega arith

below_1 : All (λ a. a.from < 1 → a.to < 1) (arcs_of path_edges)
below_1 =
    All-from_recursion (λ a. a.from < 1 → a.to < 1) (arcs_of path_edges)
    ((λ h. omega arith), ((λ h. omega arith), ((λ h. omega arith), ((λ h. omega arith), tt))))

below_4 : All (λ a. a.from < 4 → a.to < 4) (arcs_of path_edges)
below_4 =
    All-from_recursion (λ a. a.from < 4 → a.to < 4) (arcs_of path_edges)
    ((λ h. omega arith), ((λ h. omega arith), ((λ h. omega arith), ((λ h. omega arith), tt))))

abbrev roots : List (Option ℕ)
roots = Some 1 ∷ Some 1 ∷ Some 1 ∷ Some 4 ∷ []

lowest_roots : (i : ℕ) → i < 4 → IsRootOf (graph 4 path_edges) (i + 1) (get_or roots i None)
lowest_roots zero below = lowest_by (arcs_of path_edges) 1 1 below_1 (omega arith) ([], refl)
lowest_roots (suc zero) below = lowest_by (arcs_of path_edges) 1 2 below_1 (omega arith) (arc 1 2 5 ∷ [], path_to_2)
lowest_roots (suc (suc zero)) below = lowest_by (arcs_of path_edges) 1 3 below_1 (omega arith) (arc 1 2 5 ∷ arc 2 3 2 ∷ [], path_to_3)
lowest_roots (suc (suc (suc zero))) below = lowest_by (arcs_of path_edges) 4 4 below_4 (omega arith) ([], refl)
lowest_roots (suc (suc (suc (suc i)))) below = absurd (omega arith)

pub text_of_roots : IsAnswerText Components 1 0 (graph 4 path_edges) (codes "1\n1\n1\n4\n")
unfolding digits
text_of_roots = record { inside = record { first = λ e. absurd (cc e); last = λ e. absurd (cc e) }; answers = roots; right = record { count = refl; each = lowest_roots }; spelled = refl }
