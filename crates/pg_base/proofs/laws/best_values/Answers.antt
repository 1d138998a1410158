use Rattle.std.proofs.Common.{ℕ, ◌-◌, ◌+◌, ◌≤◌, ◌<◌, [], ◌∷◌, List, get_or, min, refl, subst, arith, All}
use Rattle.std.proofs.lemmas.List.Elements.{All-from_recursion}
use Rattle.pg_base.specs.Graph.{Arc, arcs_of}
use Rattle.pg_base.specs.Walk.{IsWalk}
use Rattle.pg_base.specs.Best.{Value, Belongs, from_source}
use Rattle.pg_base.specs.Examples.{arc, path_edges, triangle_edges}
use Rattle.pg_base.proofs.WalkLemmas.{walk_rises, walk_rises_by_one, walk_stays}
use Rattle.pg_base.proofs.BestLemmas.{started_at, same_class}
use Rattle.pg_base.proofs.ExampleWalks.{path_to_3, path_apart, triangle_to_3}
use Rattle.pg_base.proofs.laws.best_values.Goals as goal

-- What belongs by a source belongs to a walk from it.
from_it : (add : ℕ → ℕ) (arcs : List Arc) (source v : ℕ) (y : Value) → (b : Belongs (record { start = from_source source; add = add }) arcs v y) → IsWalk arcs source b.walk v
from_it add arcs source v y b = subst (λ (u : ℕ). IsWalk arcs u b.walk v) (started_at source b.from y.class b.started) b.joins

-- How far vertices lie from the first, by weight and by arcs.
abbrev far : ℕ → ℕ
far v = get_or (0 ∷ 0 ∷ 5 ∷ 7 ∷ []) v 0

far_is_slow : All (λ a. far a.to ≤ far a.from + a.weight) (arcs_of path_edges)
far_is_slow =
    All-from_recursion (λ a. far a.to ≤ far a.from + a.weight) (arcs_of path_edges)
    (omega arith, (omega arith, (omega arith, (omega arith, tt))))

path_is_slow : All (λ a. a.to - 1 ≤ (a.from - 1) + 1) (arcs_of path_edges)
path_is_slow =
    All-from_recursion (λ a. a.to - 1 ≤ (a.from - 1) + 1) (arcs_of path_edges)
    (omega arith, (omega arith, (omega arith, (omega arith, tt))))

triangle_is_slow : All (λ a. min 1 (a.to - 1) ≤ min 1 (a.from - 1) + 1) (arcs_of triangle_edges)
triangle_is_slow =
    All-from_recursion (λ a. min 1 (a.to - 1) ≤ min 1 (a.from - 1) + 1) (arcs_of triangle_edges)
    (omega arith, (omega arith, (omega arith, (omega arith, (omega arith, (omega arith, tt))))))

below_4 : All (λ a. a.from < 4 → a.to < 4) (arcs_of path_edges)
below_4 =
    All-from_recursion (λ a. a.from < 4 → a.to < 4) (arcs_of path_edges)
    ((λ h. omega arith), ((λ h. omega arith), ((λ h. omega arith), ((λ h. omega arith), tt))))

at_least : (limit x : ℕ) → (x < limit → ⊥) → limit ≤ x
at_least limit x never = omega arith

pub returns-clause-by_weight : goal.returns-clause-by_weight
returns-clause-by_weight c = record {
  belongs = record { from = 1; walk = arc 1 2 5 ∷ arc 2 3 2 ∷ []; joins = path_to_3; started = refl; amount = refl; hops = refl };
  least = λ y b.
      let joins = from_it (λ w. w) (arcs_of path_edges) 1 3 y b in
      let weight = walk_rises far (λ a. a.weight) (arcs_of path_edges) far_is_slow 1 b.walk 3 joins in
      let arcs = walk_rises_by_one (λ v. v - 1) (arcs_of path_edges) path_is_slow 1 b.walk 3 joins in
      record { class = omega arith; amount = λ e. omega (arith, weight, b.amount); hops = λ e f. omega (arith, arcs, b.hops) };
}

pub returns-clause-by_hops : goal.returns-clause-by_hops
returns-clause-by_hops c = record {
  belongs = record { from = 1; walk = arc 1 3 4 ∷ []; joins = triangle_to_3; started = refl; amount = refl; hops = refl };
  least = λ y b.
      let joins = from_it (λ w. 1) (arcs_of triangle_edges) 1 3 y b in
      let amount = walk_rises (λ v. min 1 (v - 1)) (λ a. 1) (arcs_of triangle_edges) triangle_is_slow 1 b.walk 3 joins in
      let arcs = walk_rises_by_one (λ v. min 1 (v - 1)) (arcs_of triangle_edges) triangle_is_slow 1 b.walk 3 joins in
      record { class = omega arith; amount = λ e. omega (arith, amount, b.amount); hops = λ e f. omega (arith, arcs, b.hops) };
}

pub returns-clause-away : goal.returns-clause-away
returns-clause-away c = λ y b. path_apart (b.walk, from_it (λ w. w) (arcs_of path_edges) 1 4 y b)

pub returns-clause-by_root : goal.returns-clause-by_root
returns-clause-by_root c = record {
  belongs = record { from = 4; walk = []; joins = refl; started = refl; amount = refl; hops = refl };
  least = λ y b.
      let root = same_class b.from y.class b.started in
      let high : 4 ≤ b.from = at_least 4 b.from (λ below. omega (arith, walk_stays (λ x. x < 4) (arcs_of path_edges) below_4 b.from b.walk 4 b.joins below)) in
      record { class = omega (arith, high, root); amount = λ e. omega arith; hops = λ e f. omega arith };
}

pub returns-clause-longer : goal.returns-clause-longer
returns-clause-longer c = λ best.
    let most = best.least (record { class = 0; amount = 1; hops = 1 }) (record { from = 1; walk = arc 1 3 4 ∷ []; joins = triangle_to_3; started = refl; amount = refl; hops = refl }) in
    omega (arith, most.amount refl)
