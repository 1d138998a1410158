-- How to reason about every walk at once: sets that no arc leaves, numbers that no arc lets rise by more
-- than its cost, and the laws of composing, refining and turning walks.
use Rattle.std.proofs.Common.{◌≡◌, ℕ, ◌+◌, ◌<◌, ◌≤◌, List, [], ◌∷◌, ◌++◌, length, Some, None, sym, refl, ap, subst, ⊎_elim, arith, All, Contains, sum_by, le_antisymm}
use Rattle.std.proofs.lemmas.List.Elements.{All-contains}
use Rattle.std.proofs.lemmas.List.Sums.{sum_by-cons}
use Rattle.pg_base.specs.declared.edges.Edge.{Edge}
use Rattle.pg_base.specs.Graph.{Arc, forward, backward, arcs_of}
use Rattle.pg_base.specs.Walk.{IsWalk, Joins, IsLeast, LeastArcs, LeastWeight, weight_of, IsLowest}
use Rattle.pg_base.specs.WalkLaws.{WalksCompose, WalksRefine, WalksTurnRound, LeastIsOne, LowestIsOne}
use Rattle.pg_base.proofs.Members.{contains_first, contains_later, contains_cases}

-- A walk that begins in a set that no arc leaves ends in it.
pub walk_stays : (Inside : ℕ → Type 0) (arcs : List Arc) → All (λ a. Inside a.from → Inside a.to) arcs → (s : ℕ) (walk : List Arc) (v : ℕ) → IsWalk arcs s walk v → Inside s → Inside v
walk_stays Inside arcs closed s [] v joins inside = subst Inside joins inside
walk_stays Inside arcs closed s (a ∷ walk) v joins inside =
    let step = All-contains (λ a. Inside a.from → Inside a.to) arcs a closed joins.0 in
    walk_stays Inside arcs closed a.to walk v joins.2 (step (subst Inside (sym joins.1) inside))

-- Where no arc lets f rise by more than its cost, no walk does by more than the sum of its costs.
pub walk_rises : (f : ℕ → ℕ) (cost : Arc → ℕ) (arcs : List Arc) → All (λ a. f a.to ≤ f a.from + cost a) arcs → (s : ℕ) (walk : List Arc) (v : ℕ) → IsWalk arcs s walk v → f v ≤ f s + sum_by cost walk
walk_rises f cost arcs slow s [] v joins = let same : f s ≡ f v = ap f joins in omega arith
walk_rises f cost arcs slow s (a ∷ walk) v joins =
    let here : f a.to ≤ f a.from + cost a = All-contains (λ a. f a.to ≤ f a.from + cost a) arcs a slow joins.0 in
    let same : f a.from ≡ f s = ap f joins.1 in
    let rest = walk_rises f cost arcs slow a.to walk v joins.2 in
    let total = sum_by-cons cost a walk in
    omega arith

-- The same, where each arc costs 1.
pub walk_rises_by_one : (f : ℕ → ℕ) (arcs : List Arc) → All (λ a. f a.to ≤ f a.from + 1) arcs → (s : ℕ) (walk : List Arc) (v : ℕ) → IsWalk arcs s walk v → f v ≤ f s + length walk
walk_rises_by_one f arcs slow s [] v joins = let same : f s ≡ f v = ap f joins in omega arith
walk_rises_by_one f arcs slow s (a ∷ walk) v joins =
    let here : f a.to ≤ f a.from + 1 = All-contains (λ a. f a.to ≤ f a.from + 1) arcs a slow joins.0 in
    let same : f a.from ≡ f s = ap f joins.1 in
    let rest = walk_rises_by_one f arcs slow a.to walk v joins.2 in
    omega arith

-- No walk leads past a limit that no arc leads past.
pub apart_by_limit : (limit : ℕ) (arcs : List Arc) (s v : ℕ) → All (λ a. a.from ≤ limit → a.to ≤ limit) arcs → s ≤ limit → limit < v → Joins arcs s v → ⊥
apart_by_limit limit arcs s v closed within past joins =
    let reached : v ≤ limit = walk_stays (λ x. x ≤ limit) arcs closed s joins.0 v joins.1 within in
    omega arith

-- A walk is least where numbers that no arc lets rise by more than its cost rise as much along it.
pub least_arcs_by : (f : ℕ → ℕ) (arcs : List Arc) (s v k : ℕ) (walk : List Arc) → All (λ a. f a.to ≤ f a.from + 1) arcs → IsWalk arcs s walk v → length walk ≡ k → f s + k ≤ f v → LeastArcs arcs s v (Some k)
least_arcs_by f arcs s v k walk slow joins attained reached = record {
  walk = walk;
  joins = joins;
  attained = attained;
  least = λ other there. let bound = walk_rises_by_one f arcs slow s other v there in omega arith;
}

pub least_weight_by : (f : ℕ → ℕ) (arcs : List Arc) (s v k : ℕ) (walk : List Arc) → All (λ a. f a.to ≤ f a.from + a.weight) arcs → IsWalk arcs s walk v → weight_of walk ≡ k → f s + k ≤ f v → LeastWeight arcs s v (Some k)
least_weight_by f arcs s v k walk slow joins attained reached = record {
  walk = walk;
  joins = joins;
  attained = attained;
  least = λ other there. let bound = walk_rises f (λ a. a.weight) arcs slow s other v there in omega arith;
}

pub walks_compose : WalksCompose
walks_compose arcs s v w [] q first second = subst (λ (x : ℕ). IsWalk arcs x q w) (sym first) second
walks_compose arcs s v w (a ∷ p) q first second =
    (first.0, first.1, walks_compose arcs a.to v w p q first.2 second)

-- An arc of the list is a walk.
pub arc_joins : (arcs : List Arc) (a : Arc) → Contains arcs a → Joins arcs a.from a.to
arc_joins arcs a among = (a ∷ [], (among, refl, refl))

pub joins_compose : (arcs : List Arc) (s v w : ℕ) → Joins arcs s v → Joins arcs v w → Joins arcs s w
joins_compose arcs s v w first second =
    (first.0 ++ second.0, walks_compose arcs s v w first.0 second.0 first.1 second.1)

refine : (arcs others : List Arc) → All (λ a. Joins others a.from a.to) arcs → (s : ℕ) (walk : List Arc) (v : ℕ) → IsWalk arcs s walk v → Joins others s v
refine arcs others each s [] v joins = ([], joins)
refine arcs others each s (a ∷ walk) v joins =
    let here = All-contains (λ a. Joins others a.from a.to) arcs a each joins.0 in
    let rest = refine arcs others each a.to walk v joins.2 in
    joins_compose others s a.to v (subst (λ (x : ℕ). Joins others x a.to) joins.1 here) rest

pub walks_refine : WalksRefine
walks_refine arcs others each s v joins = refine arcs others each s joins.0 v joins.1

-- The arc in the other direction.
abbrev pub turned : Arc → Arc
turned a = record { from = a.to; to = a.from; weight = a.weight }

pub arcs_of-turned : (edges : List Edge) (a : Arc) → Contains (arcs_of edges) a → Contains (arcs_of edges) (turned a)
arcs_of-turned [] a among = absurd (omega arith)
arcs_of-turned (e ∷ edges) a among =
    let rest = arcs_of edges in
    ⊎_elim
    (λ is. subst (λ (x : Arc). Contains (arcs_of (e ∷ edges)) (turned x)) is
    (contains_later (forward e) (backward e ∷ rest) (backward e) (contains_first (backward e) rest)))
    (λ later. ⊎_elim
    (λ is. subst (λ (x : Arc). Contains (arcs_of (e ∷ edges)) (turned x)) is
    (contains_first (forward e) (backward e ∷ rest)))
    (λ last. contains_later (forward e) (backward e ∷ rest) (turned a)
    (contains_later (backward e) rest (turned a) (arcs_of-turned edges a last)))
    (contains_cases (backward e) rest a later))
    (contains_cases (forward e) (backward e ∷ rest) a among)

turn : (edges : List Edge) (s : ℕ) (walk : List Arc) (v : ℕ) → IsWalk (arcs_of edges) s walk v → Joins (arcs_of edges) v s
turn edges s [] v joins = ([], sym joins)
turn edges s (a ∷ walk) v joins =
    let back = arc_joins (arcs_of edges) (turned a) (arcs_of-turned edges a joins.0) in
    joins_compose (arcs_of edges) v a.to s (turn edges a.to walk v joins.2)
    (subst (λ (x : ℕ). Joins (arcs_of edges) a.to x) joins.1 back)

pub walks_turn_round : WalksTurnRound
walks_turn_round edges s v joins = turn edges s joins.0 v joins.1

IsLeast-one : (measure : List Arc → ℕ) (arcs : List Arc) (s v a b : ℕ) → IsLeast measure arcs s v a → IsLeast measure arcs s v b → a ≡ b
IsLeast-one measure arcs s v a b left right =
    let below = left.least right.walk right.joins in
    let above = right.least left.walk left.joins in
    let reached = left.attained in
    let met = right.attained in
    omega arith

pub least_is_one : LeastIsOne
least_is_one measure arcs s v None None left right = refl
least_is_one measure arcs s v None (Some b) left right = absurd (left (right.walk, right.joins))
least_is_one measure arcs s v (Some a) None left right = absurd (right (left.walk, left.joins))
least_is_one measure arcs s v (Some a) (Some b) left right = ap Some (IsLeast-one measure arcs s v a b left right)

pub lowest_is_one : LowestIsOne
lowest_is_one arcs v a b left right = le_antisymm (left.lowest b right.joins) (right.lowest a left.joins)

le_from_not_lt : (u other : ℕ) → (other < u → ⊥) → u ≤ other
le_from_not_lt u other never = omega arith

out : (u v : ℕ) → u ≤ v → v < u → ⊥
out u v at_least below = omega arith

-- u is the lowest where no arc leads from a vertex below u to u or above.
pub lowest_by : (arcs : List Arc) (u v : ℕ) → All (λ a. a.from < u → a.to < u) arcs → u ≤ v → Joins arcs u v → IsLowest arcs v u
lowest_by arcs u v closed within joins = record {
  joins = joins;
  lowest = λ other there. le_from_not_lt u other (λ below. out u v within (walk_stays (λ x. x < u) arcs closed other there.0 v there.1 below));
}
