-- The least of what a list has, or no key where it has nothing.
use Rattle.std.proofs.Common.{◌≡◌, ◌⊎◌, ℕ, ◌<◌, ◌≤◌, true, List, [], ◌∷◌, refl, sym, ◌∙◌, subst, inl, inr, ⊎_elim, arith, Option, Some, None, Contains}
use Rattle.std.specs.Prelude.{min, nat_lt, filter}
use Rattle.std.proofs.lemmas.Bool.{cases_lt, lt-ltb, le-ltb, cond-true, cond-false}
use Rattle.pg_base.proofs.Members.{contains_first, contains_later, contains_cases, Contains-filter, Contains-kept}
use Rattle.pg_boruvka.specs.declared.TheConstants.{NO_KEY}
use Rattle.pg_boruvka.specs.Parts.{LocalArc, Part}
use Rattle.pg_boruvka.specs.Winners.{leaves, lesser_arc, least_arc, best_arc, own_key, key_of, least}

-- k is one of these keys, or none, and at most each of them.
pub record IsLeastOf (Is : ℕ → Type 0) (k : ℕ) : Type 0 where
  pub lowest : (x : ℕ) → Is x → k ≤ x
  pub one : (k ≡ NO_KEY) ⊎ Is k

pub least_is_one : (Is : ℕ → Type 0) → ((x : ℕ) → Is x → x < NO_KEY) → (k m : ℕ) → IsLeastOf Is k → IsLeastOf Is m → k ≡ m
least_is_one Is small k m first second = by_cases first.one second.one where
  by_cases : (k ≡ NO_KEY) ⊎ Is k → (m ≡ NO_KEY) ⊎ Is m → k ≡ m
  by_cases (inl none) (inl also) = none ∙ sym also
  by_cases (inl none) (inr is) = absurd (omega (arith, first.lowest m is, small m is, none))
  by_cases (inr is) (inl none) = absurd (omega (arith, second.lowest k is, small k is, none))
  by_cases (inr is) (inr also) = omega (arith, first.lowest m also, second.lowest k is)

pub least_most : (keys : List ℕ) (k : ℕ) → Contains keys k → least keys ≤ k
least_most [] k c = absurd (omega (arith, c.1))
least_most (key ∷ keys) k c = ⊎_elim
    (λ same. omega (arith, same))
    (λ later. omega (arith, least_most keys k later))
    (contains_cases key keys k c)

min_cases : (a b : ℕ) → (min a b ≡ a) ⊎ (min a b ≡ b)
min_cases a b = ⊎_elim (λ less. inl (omega arith)) (λ more. inr (omega arith)) (cases_lt a b)

pub least_cases : (keys : List ℕ) → (least keys ≡ NO_KEY) ⊎ Contains keys (least keys)
least_cases [] = inl refl
least_cases (key ∷ keys) = ⊎_elim
    (λ first. inr (subst (Contains (key ∷ keys)) (sym first) (contains_first key keys)))
    (λ rest. ⊎_elim
    (λ none. inl (rest ∙ none))
    (λ c. inr (subst (Contains (key ∷ keys)) (sym rest) (contains_later key keys (least keys) c)))
    (least_cases keys))
    (min_cases key (least keys))

-- The least arc of a list, where it has one.
abbrev pub IsLeastArc : List LocalArc → Option LocalArc → Type 0
IsLeastArc arcs None = (a : LocalArc) → Contains arcs a → ⊥
IsLeastArc arcs (Some b) = Contains arcs b × ((a : LocalArc) → Contains arcs a → b.key ≤ a.key)

lesser_first : (a : LocalArc) (arcs : List LocalArc) (o : Option LocalArc) → IsLeastArc arcs o → IsLeastArc (a ∷ arcs) (Some (lesser_arc a o))
lesser_first a arcs None none = (
  contains_first a arcs,
  λ x c. ⊎_elim (λ same. subst (λ (y : LocalArc). a.key ≤ y.key) same (omega arith)) (λ later. absurd (none x later)) (contains_cases a arcs x c),
)
lesser_first a arcs (Some b) is = ⊎_elim
    (λ less. subst (λ (y : LocalArc). IsLeastArc (a ∷ arcs) (Some y)) (sym (cond-true (nat_lt b.key a.key) b a (lt-ltb b.key a.key less)))
    ((
      contains_later a arcs b is.0,
      λ x c. ⊎_elim (λ same. subst (λ (y : LocalArc). b.key ≤ y.key) same (omega arith)) (λ later. is.1 x later) (contains_cases a arcs x c),
    )))
    (λ more. subst (λ (y : LocalArc). IsLeastArc (a ∷ arcs) (Some y)) (sym (cond-false (nat_lt b.key a.key) b a (le-ltb b.key a.key more)))
    ((
      contains_first a arcs,
      λ x c. ⊎_elim (λ same. subst (λ (y : LocalArc). a.key ≤ y.key) same (omega arith)) (λ later. omega (arith, is.1 x later)) (contains_cases a arcs x c),
    )))
    (cases_lt b.key a.key)

pub least_arc_is : (arcs : List LocalArc) → IsLeastArc arcs (least_arc arcs)
least_arc_is [] = λ a c. omega (arith, c.1)
least_arc_is (a ∷ arcs) = lesser_first a arcs (least_arc arcs) (least_arc_is arcs)

-- The arc is one of the part's and leaves the label.
pub record LeavesFrom (part : Part) (label : ℕ → ℕ) (l : ℕ) (a : LocalArc) : Type 0 where
  pub among : Contains part.arcs a
  pub leaves : leaves label l a ≡ true

-- The least of them, where there is one.
abbrev pub IsBestArc : Part → (ℕ → ℕ) → ℕ → Option LocalArc → Type 0
IsBestArc part label l None = (a : LocalArc) → LeavesFrom part label l a → ⊥
IsBestArc part label l (Some b) = LeavesFrom part label l b × ((a : LocalArc) → LeavesFrom part label l a → b.key ≤ a.key)

best_from : (part : Part) (label : ℕ → ℕ) (l : ℕ) (o : Option LocalArc) → IsLeastArc (filter (leaves label l) part.arcs) o → IsBestArc part label l o
best_from part label l None none = λ a is. none a (Contains-kept (leaves label l) part.arcs a is.among is.leaves)
best_from part label l (Some b) is =
    let kept = Contains-filter (leaves label l) part.arcs b is.0 in
    (record { among = kept.0; leaves = kept.1 }, λ a from. is.1 a (Contains-kept (leaves label l) part.arcs a from.among from.leaves))

pub best_arc_is : (part : Part) (label : ℕ → ℕ) (l : ℕ) → IsBestArc part label l (best_arc part label l)
best_arc_is part label l = best_from part label l (best_arc part label l) (least_arc_is (filter (leaves label l) part.arcs))

-- A key of an arc of the part that leaves the label.
pub record IsOwnKey (part : Part) (label : ℕ → ℕ) (l x : ℕ) : Type 0 where
  pub arc : LocalArc
  pub from : LeavesFrom part label l arc
  pub key : arc.key ≡ x

own_by : (part : Part) (label : ℕ → ℕ) (l : ℕ) (o : Option LocalArc) → IsBestArc part label l o → IsLeastOf (IsOwnKey part label l) (key_of o)
own_by part label l None none = record { lowest = λ x is. absurd (none is.arc is.from); one = inl refl }
own_by part label l (Some b) is = record {
  lowest = λ x own. omega (arith, is.1 own.arc own.from, own.key);
  one = inr (record { arc = b; from = is.0; key = refl });
}

pub own_is_least : (part : Part) (label : ℕ → ℕ) (l : ℕ) → IsLeastOf (IsOwnKey part label l) (own_key part label l)
own_is_least part label l = own_by part label l (best_arc part label l) (best_arc_is part label l)
