use Rattle.std.proofs.Common.{◌≤◌, [], ◌∷◌, refl, sym, subst, ⊎_elim, arith, Contains}
use Rattle.std.proofs.lemmas.List.Elements.{All-from_recursion}
use Rattle.pg_base.specs.Graph.{Precedes, arcs_of}
use Rattle.pg_base.specs.declared.edges.Edge.{Edge}
use Rattle.pg_base.specs.Forest.{InForest}
use Rattle.pg_base.specs.Examples.{arc, edge, triangle_edges, triangle_tree}
use Rattle.pg_base.proofs.Members.{contains_cases, AllPairs-cons}
use Rattle.pg_base.proofs.WalkLemmas.{apart_by_limit}
use Rattle.pg_base.proofs.laws.forests.Goals as goal

pub returns-clause-path_first : goal.returns-clause-path_first
returns-clause-path_first c = record {
  among = (0, omega arith, refl);
  needed = apart_by_limit 1 (arcs_of (edge 2 3 2 ∷ [])) 1 2
      (All-from_recursion (λ a. a.from ≤ 1 → a.to ≤ 1) (arcs_of (edge 2 3 2 ∷ [])) ((λ h. omega arith), ((λ h. omega arith), tt)))
      (omega arith) (omega arith);
}

pub returns-clause-path_second : goal.returns-clause-path_second
returns-clause-path_second c = record {
  among = (1, omega arith, refl);
  needed = apart_by_limit 2 [] 2 3 (All-from_recursion (λ a. a.from ≤ 2 → a.to ≤ 2) [] tt) (omega arith) (omega arith);
}

first_in : InForest triangle_edges (edge 1 2 4)
first_in = record {
  among = (0, omega arith, refl);
  needed = apart_by_limit 1 [] 1 2 (All-from_recursion (λ a. a.from ≤ 1 → a.to ≤ 1) [] tt) (omega arith) (omega arith);
}

second_in : InForest triangle_edges (edge 1 3 4)
second_in = record {
  among = (1, omega arith, refl);
  needed = apart_by_limit 2 (arcs_of (edge 1 2 4 ∷ [])) 1 3
      (All-from_recursion (λ a. a.from ≤ 2 → a.to ≤ 2) (arcs_of (edge 1 2 4 ∷ [])) ((λ h. omega arith), ((λ h. omega arith), tt)))
      (omega arith) (omega arith);
}

-- The walk 2, 1, 3 of lesser edges joins its ends.
third_out : InForest triangle_edges (edge 2 3 4) → ⊥
third_out = λ is. is.needed (arc 2 1 4 ∷ arc 1 3 4 ∷ [], ((1, omega arith, refl), refl, ((2, omega arith, refl), refl, refl)))

tree_in : (e : Edge) → Contains triangle_tree e → InForest triangle_edges e
tree_in e among =
    ⊎_elim
    (λ same. subst (InForest triangle_edges) same first_in)
    (λ later. ⊎_elim
    (λ same. subst (InForest triangle_edges) same second_in)
    (λ last. absurd (omega (arith, last.1)))
    (contains_cases (edge 1 3 4) [] e later))
    (contains_cases (edge 1 2 4) (edge 1 3 4 ∷ []) e among)

in_tree : (e : Edge) → InForest triangle_edges e → Contains triangle_tree e
in_tree e is =
    ⊎_elim
    (λ same. (0, omega arith, same))
    (λ later. ⊎_elim
    (λ same. (1, omega arith, same))
    (λ last. ⊎_elim
    (λ same. absurd (third_out (subst (InForest triangle_edges) (sym same) is)))
    (λ none. absurd (omega (arith, none.1)))
    (contains_cases (edge 2 3 4) [] e last))
    (contains_cases (edge 1 3 4) (edge 2 3 4 ∷ []) e later))
    (contains_cases (edge 1 2 4) (edge 1 3 4 ∷ edge 2 3 4 ∷ []) e is.among)

pub returns-clause-triangle_first : goal.returns-clause-triangle_first
returns-clause-triangle_first c = first_in

pub returns-clause-triangle_second : goal.returns-clause-triangle_second
returns-clause-triangle_second c = second_in

pub returns-clause-triangle_third : goal.returns-clause-triangle_third
returns-clause-triangle_third c = third_out

pub returns-clause-whole : goal.returns-clause-whole
returns-clause-whole c = record {
  exactly = λ e. (tree_in e, in_tree e);
  ascending = AllPairs-cons Precedes (edge 1 2 4) (edge 1 3 4 ∷ [])
      (All-from_recursion (Precedes (edge 1 2 4)) (edge 1 3 4 ∷ []) (record { first = omega arith; second = λ e. omega arith }, tt))
      (λ i j d below within. absurd (omega arith));
}

pub returns-clause-all_three : goal.returns-clause-all_three
returns-clause-all_three c = λ is. third_out ((is.exactly (edge 2 3 4)).0 (2, omega arith, refl))
