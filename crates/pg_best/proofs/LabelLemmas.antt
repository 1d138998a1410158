-- What the best values by the three labels are.
use Rattle.std.proofs.Common.{◌≡◌, ℕ, List, [], ◌∷◌, length, refl, sym, ◌∙◌, subst, inl, inr, arith, Option, Some, None, sum_by}
use Rattle.std.proofs.lemmas.Bool.{cases_eq, eq-eqb, ne_eqb}
use Rattle.std.proofs.lemmas.List.Sums.{sum_by-cons}
use Rattle.pg_base.specs.Graph.{Arc}
use Rattle.pg_base.specs.Walk.{IsWalk, Least}
use Rattle.pg_label.specs.declared.values.Value.{Value}
use Rattle.pg_best.specs.Best.{Label, cost_of, Belongs, Best}
use Rattle.pg_best.specs.Labels.{from_source, roots, amount_in, HopsAreLeast, WeightsAreLeast, RootsAreLowest}

started_at : (source u class : ℕ) → from_source source u ≡ Some class → u ≡ source
started_at source u class started = elim (cases_eq u source) [
  | inl same ↦ same
  | inr apart ↦ let none : from_source source u ≡ None = rw (ne_eqb u source apart) refl in cc
]

source_starts : (source : ℕ) → from_source source source ≡ Some 0
source_starts source = rw (eq-eqb source source refl) refl

module _ (add : ℕ → ℕ) (source : ℕ) (arcs : List Arc) (v : ℕ) where
  abbrev label : Label
  label = record { start = from_source source; add = add }

  abbrev value_of : List Arc → Value
  value_of walk = record { class = 0; amount = cost_of label walk; hops = length walk }

  belongs_from : (walk : List Arc) → IsWalk arcs source walk v → Belongs label arcs v (value_of walk)
  belongs_from walk joins = record { from = source; walk = walk; joins = joins; started = source_starts source; amount = refl; hops = refl }

  -- the best value's amount is the least cost from the source
  best_cost : (c : Option Value) → Best label arcs v c → Least (cost_of label) arcs source v (amount_in c)
  best_cost None none = λ joins. none (value_of joins.0) (belongs_from joins.0 joins.1)
  best_cost (Some x) best =
      let joins : IsWalk arcs source best.belongs.walk v = subst (λ (u : ℕ). IsWalk arcs u best.belongs.walk v) (started_at source best.belongs.from x.class best.belongs.started) best.belongs.joins in
      record {
        walk = best.belongs.walk;
        joins = joins;
        attained = best.belongs.amount;
        least = λ other there.
            let most = best.least (value_of other) (belongs_from other there) in
            omega (arith, most);
      }

ones : (walk : List Arc) → sum_by (λ a. 1) walk ≡ length walk
ones [] = refl
ones (a ∷ walk) = omega (arith, sum_by-cons (λ (b : Arc). 1) a walk, ones walk)

pub weights_are_least : WeightsAreLeast
weights_are_least arcs source v c best = best_cost (λ w. w) source arcs v c best

counted : (arcs : List Arc) (source v : ℕ) (k : Option ℕ) → Least (λ walk. sum_by (λ a. 1) walk) arcs source v k → Least length arcs source v k
counted arcs source v None none = none
counted arcs source v (Some k) least = record {
  walk = least.walk;
  joins = least.joins;
  attained = sym (ones least.walk) ∙ least.attained;
  least = λ other there. omega (arith, least.least other there, ones other);
}

pub hops_are_least : HopsAreLeast
hops_are_least arcs source v c best = counted arcs source v (amount_in c) (best_cost (λ w. 1) source arcs v c best)

-- a walk's value by its root
root_belongs : (arcs : List Arc) (u v : ℕ) (walk : List Arc) → IsWalk arcs u walk v → Belongs roots arcs v (record { class = u; amount = cost_of roots walk; hops = length walk })
root_belongs arcs u v walk joins = record { from = u; walk = walk; joins = joins; started = refl; amount = refl; hops = refl }

same_class : (u class : ℕ) → Some u ≡ Some class → u ≡ class
same_class u class e = cc

pub roots_are_lowest : RootsAreLowest
roots_are_lowest arcs v None none = absurd (none (record { class = v; amount = 0; hops = 0 }) (root_belongs arcs v v [] refl))
roots_are_lowest arcs v (Some x) best =
    let root : best.belongs.from ≡ x.class = same_class best.belongs.from x.class best.belongs.started in (
      x,
      refl,
      record {
        joins = (best.belongs.walk, subst (λ (u : ℕ). IsWalk arcs u best.belongs.walk v) root best.belongs.joins);
        lowest = λ other there. (best.least (record { class = other; amount = cost_of roots there.0; hops = length there.0 }) (root_belongs arcs other v there.0 there.1)).class;
      },
    )
