-- Which edges are in the forest, and what the forest's edges join.
use Rattle.std.proofs.Common.{Bool, true, false, filter, cond, ◌≡◌, ℕ, zero, suc, ◌<◌, ◌≤◌, ◌⊎◌, List, [], ◌∷◌, length, sym, ◌∙◌, refl, subst, inl, inr, ⊎_elim, arith, Contains}
use Rattle.std.proofs.lemmas.Bool.{false≢true}
use Rattle.pg_base.specs.declared.edges.Edge.{Edge}
use Rattle.pg_base.specs.Graph.{arcs_of}
use Rattle.pg_base.specs.Forest.{key_lt, lesser_edges, InForest, HasForest}
use Rattle.pg_base.proofs.Members.{contains_first, contains_later, contains_cases, Contains-filter, Contains-kept}
use Rattle.pg_base.proofs.KeyLemmas.{keys_are_strict, keys_carry_over, keys_tell_apart}
use Rattle.pg_forest.specs.ForestLaws.{ForestIsDecided, LeastLeavingIsIn, LesserForestJoins, ForestJoins}
use Rattle.pg_forest.proofs.Deciding.{joining_is_decided}
use Rattle.pg_forest.proofs.Links.{Links, link, links_refine, links_keep}

-- What lesser_edges keeps, and all of it.
pub is_lesser : (edges : List Edge) (e d : Edge) → Contains (lesser_edges edges e) d → Contains edges d × (key_lt d e ≡ true)
is_lesser edges e d among = Contains-filter (λ (x : Edge). key_lt x e) edges d among

pub lesser : (edges : List Edge) (e d : Edge) → Contains edges d → key_lt d e ≡ true → Contains (lesser_edges edges e) d
lesser edges e d among less = Contains-kept (λ (x : Edge). key_lt x e) edges d among less

-- Two edges are the same, or one has the lesser key.
abbrev pub Compared : Edge → Edge → Type 0
Compared d e = (d ≡ e) ⊎ ((key_lt d e ≡ true) ⊎ (key_lt e d ≡ true))

compared_by : (d e : Edge) (less more : Bool) → key_lt d e ≡ less → key_lt e d ≡ more → Compared d e
compared_by d e true more is_less is_more = inr (inl is_less)
compared_by d e false true is_less is_more = inr (inr is_more)
compared_by d e false false is_less is_more = inl (keys_tell_apart d e is_less is_more)

pub compared : (d e : Edge) → Compared d e
compared d e = compared_by d e (key_lt d e) (key_lt e d) refl refl

-- An edge that leaves a set is in the forest if each lesser edge stays inside or outside.
pub least_leaving_is_in : LeastLeavingIsIn
least_leaving_is_in edges e inside among leaves stays =
    record { among = among; needed = λ links. leaves (links_keep inside (lesser_edges edges e) (λ d below. let kept = is_lesser edges e d below in stays d kept.0 kept.1) e.u e.v links) }

-- Whether an edge is among others has an answer.
member_step : (x : Edge) (xs : List Edge) (e : Edge) → Compared x e → Contains xs e ⊎ (Contains xs e → ⊥) → Contains (x ∷ xs) e ⊎ (Contains (x ∷ xs) e → ⊥)
member_step x xs e (inl same) rest = inl (subst (Contains (x ∷ xs)) same (contains_first x xs))
member_step x xs e (inr apart) (inl later) = inl (contains_later x xs e later)
member_step x xs e (inr apart) (inr never) =
    inr (λ among. ⊎_elim (λ same. differ same apart) never (contains_cases x xs e among))
  where
    differ : x ≡ e → (key_lt x e ≡ true) ⊎ (key_lt e x ≡ true) → ⊥
    differ same (inl less) = false≢true (sym (keys_are_strict e) ∙ subst (λ (z : Edge). key_lt z e ≡ true) same less)
    differ same (inr more) = false≢true (sym (keys_are_strict e) ∙ subst (λ (z : Edge). key_lt e z ≡ true) same more)

pub member_is_decided : (xs : List Edge) (e : Edge) → Contains xs e ⊎ (Contains xs e → ⊥)
member_is_decided [] e = inr (λ among. omega (arith, among.1))
member_is_decided (x ∷ xs) e = member_step x xs e (compared x e) (member_is_decided xs e)

forest_by : (edges : List Edge) (e : Edge) → Contains edges e ⊎ (Contains edges e → ⊥) → Links (lesser_edges edges e) e.u e.v ⊎ (Links (lesser_edges edges e) e.u e.v → ⊥) → InForest edges e ⊎ (InForest edges e → ⊥)
forest_by edges e (inl among) (inl links) = inr (λ is. is.needed links)
forest_by edges e (inl among) (inr never) = inl record { among = among; needed = never }
forest_by edges e (inr absent) links = inr (λ is. absent is.among)

pub forest_is_decided : ForestIsDecided
forest_is_decided edges e =
    forest_by edges e (member_is_decided edges e) (joining_is_decided (arcs_of (lesser_edges edges e)) e.u e.v)

-- A test that passes more keeps more, and one that also passes x of the list keeps more by one.
module _ {X : Type 0} (p q : X → Bool) (wider : (x : X) → p x ≡ true → q x ≡ true) where
  keeps_step : (x : X) (xs : List X) (b c : Bool) → p x ≡ b → q x ≡ c → length (filter p xs) ≤ length (filter q xs) → length (cond b (x ∷ filter p xs) (filter p xs)) ≤ length (cond c (x ∷ filter q xs) (filter q xs))
  keeps_step x xs true true left right rest = omega arith
  keeps_step x xs true false left right rest = absurd (false≢true (sym right ∙ wider x left))
  keeps_step x xs false true left right rest = omega arith
  keeps_step x xs false false left right rest = rest

  keeps_no_less : (xs : List X) → length (filter p xs) ≤ length (filter q xs)
  keeps_no_less [] = omega arith
  keeps_no_less (x ∷ xs) = keeps_step x xs (p x) (q x) refl refl (keeps_no_less xs)

  more_step : (x : X) (xs : List X) (b c : Bool) → p x ≡ b → q x ≡ c → length (filter p xs) < length (filter q xs) → length (cond b (x ∷ filter p xs) (filter p xs)) < length (cond c (x ∷ filter q xs) (filter q xs))
  more_step x xs true true left right rest = omega arith
  more_step x xs true false left right rest = absurd (false≢true (sym right ∙ wider x left))
  more_step x xs false true left right rest = omega arith
  more_step x xs false false left right rest = rest

  here_step : (x : X) (xs : List X) (b c : Bool) → b ≡ false → c ≡ true → length (cond b (x ∷ filter p xs) (filter p xs)) < length (cond c (x ∷ filter q xs) (filter q xs))
  here_step x xs true c left right = absurd (false≢true (sym left))
  here_step x xs false true left right = let rest = keeps_no_less xs in omega arith
  here_step x xs false false left right = absurd (false≢true right)

  pub keeps_more : (xs : List X) (x : X) → Contains xs x → p x ≡ false → q x ≡ true → length (filter p xs) < length (filter q xs)
  keeps_more [] x among fails passes = absurd (omega (arith, among.1))
  keeps_more (y ∷ xs) x among fails passes =
      ⊎_elim
      (λ same. here_step y xs (p y) (q y) (subst (λ (z : X). p z ≡ false) (sym same) fails) (subst (λ (z : X). q z ≡ true) (sym same) passes))
      (λ later. more_step y xs (p y) (q y) refl refl (keeps_more xs x later fails passes))
      (contains_cases y xs x among)

fewer_lesser : (edges : List Edge) (d e : Edge) → Contains edges d → key_lt d e ≡ true → length (lesser_edges edges d) < length (lesser_edges edges e)
fewer_lesser edges d e among less =
    keeps_more (λ x. key_lt x d) (λ x. key_lt x e) (λ x below. keys_carry_over x d e below less) edges d among (keys_are_strict d) less

-- others has the forest's edges up to e.
abbrev Covers : List Edge → List Edge → Edge → Type 0
Covers edges others e = (f : Edge) → InForest edges f → (key_lt f e ≡ true) ⊎ (f ≡ e) → Contains others f

covers_lesser : (edges others : List Edge) (d e : Edge) → key_lt d e ≡ true → Covers edges others e → Covers edges others d
covers_lesser edges others d e less covers f is (inl below) = covers f is (inl (keys_carry_over f d e below less))
covers_lesser edges others d e less covers f is (inr same) =
    covers f is (inl (subst (λ (z : Edge). key_lt z e ≡ true) (sym same) less))

joined_by : (edges others : List Edge) (e : Edge) → Contains edges e → Covers edges others e → ((d : Edge) → Contains (lesser_edges edges e) d → Links others d.u d.v) → Links (lesser_edges edges e) e.u e.v ⊎ (Links (lesser_edges edges e) e.u e.v → ⊥) → Links others e.u e.v
joined_by edges others e among covers each (inl links) = links_refine (lesser_edges edges e) others each e.u e.v links
joined_by edges others e among covers each (inr never) =
    link others e (covers e (record { among = among; needed = never }) (inr refl))

joined_within : (n : ℕ) (edges others : List Edge) (e : Edge) → Contains edges e → length (lesser_edges edges e) < n → Covers edges others e → Links others e.u e.v
joined_within zero edges others e among small covers = absurd (omega arith)
joined_within (suc n) edges others e among small covers =
    joined_by edges others e among covers
    (λ d below.
    let kept = is_lesser edges e d below in
    let fewer = fewer_lesser edges d e kept.0 kept.1 in
    joined_within n edges others d kept.0 (omega arith) (covers_lesser edges others d e kept.1 covers))
    (joining_is_decided (arcs_of (lesser_edges edges e)) e.u e.v)

-- The forest's edges up to e join the ends of e.
pub joined : (edges others : List Edge) (e : Edge) → Contains edges e → Covers edges others e → Links others e.u e.v
joined edges others e among covers =
    joined_within (suc (length (lesser_edges edges e))) edges others e among (omega arith) covers

covers_below : (edges forest : List Edge) → HasForest edges forest → (k e : Edge) → key_lt e k ≡ true → Covers edges (lesser_edges forest k) e
covers_below edges forest has k e less f is (inl below) = lesser forest k f (has f is) (keys_carry_over f e k below less)
covers_below edges forest has k e less f is (inr same) =
    lesser forest k f (has f is) (subst (λ (z : Edge). key_lt z k ≡ true) (sym same) less)

pub lesser_forest_joins : LesserForestJoins
lesser_forest_joins edges forest has k s v links =
    links_refine (lesser_edges edges k) (lesser_edges forest k)
    (λ d below.
    let kept = is_lesser edges k d below in
    joined edges (lesser_edges forest k) d kept.0 (covers_below edges forest has k d kept.1))
    s v links

pub forest_joins : ForestJoins
forest_joins edges forest has s v links =
    links_refine edges forest (λ d among. joined edges forest d among (λ f is up. has f is)) s v links
