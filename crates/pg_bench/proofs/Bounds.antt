-- The least bound of colours, one place or one rank after the other.
use Rattle.std.proofs.Common.{◌≡◌, ◌≢◌, ◌∙◌, ℕ, suc, ◌+◌, ◌<◌, ◌≤◌, All, Option, Some, None, IfSome, ◌↔◌, List, [], ◌++◌, ◌∷◌, length, get_or, take, length-append, refl, inl, inr, sym, ap, subst, arith, max}
use Rattle.std.proofs.Math.Seq.{take-suc}
use Rattle.std.proofs.lemmas.Bool.{cases_lt}
use Rattle.std.proofs.lemmas.Grind.{common_steps}
use Rattle.std.specs.Ordering.{nat_cmp, ord_max}
use Rattle.std.proofs.lemmas.List.{take_all, get_or_append_left, get_or_push}
use Rattle.std.proofs.lemmas.List.Elements.{All-push}
use Rattle.pg_bench.specs.Coloured.{IsLeast}

pub maxed : (a b now : ℕ) → now ≡ ord_max nat_cmp a b → now ≡ max a b
maxed a b now is = grind (arith, common_steps, is)

module _ (own : ℕ → ℕ) (none : ℕ) where
  abbrev BelowIn : ℕ → ℕ → Type 0
  BelowIn places bound = (place : ℕ) → place < places → own place ≢ none → own place < bound

  one_place : (i place : ℕ) (bound : ℕ) → place < i + 1 → BelowIn i bound → (own i ≢ none → own i < bound) → own place ≢ none → own place < bound
  one_place i place bound within all last has = elim (cases_lt place i) [
    | inl less ↦ all place less has
    | inr least ↦
        let same : place ≡ i = omega arith in
        subst (λ p. own p < bound) (sym same) (last (subst (λ p. own p ≢ none) same has))
  ]

  pub more_places : (i count colour now : ℕ) → IsLeast (BelowIn i) count → own i ≡ colour → colour ≢ none → now ≡ max count (colour + 1) → IsLeast (BelowIn (i + 1)) now
  more_places i count colour now least is has grown = record {
    meets = λ place within. one_place i place now within (λ p less has. let was = least.meets p less has in omega arith) (λ _. omega arith);
    below = λ n meets.
        let first = least.below n (λ place within. meets place (omega arith)) in
        let last = meets i (omega arith) (λ same. has (sym is ∙ same)) in
        omega arith;
  }

  pub no_more : (i count : ℕ) → IsLeast (BelowIn i) count → own i ≡ none → IsLeast (BelowIn (i + 1)) count
  no_more i count least is = record {
    meets = λ place within. one_place i place count within least.meets (λ has. absurd (has is));
    below = λ n meets. least.below n (λ place within. meets place (omega arith));
  }

  pub some_place : (i count colour now : ℕ) (r : Option ℕ) → IsLeast (BelowIn i) count → r ≡ Some colour → (r ≡ None) ↔ (own i ≡ none) → IfSome r (λ x. own i ≡ x) → now ≡ max count (colour + 1)
      → IsLeast (BelowIn (i + 1)) now
  some_place i count colour now None least at said is grown = absurd (cc)
  some_place i count colour now (Some x) least at said is grown =
      let same : x ≡ colour = cc in
      let has : colour ≢ none = λ e. let lost : Some x ≡ None = said.1 (is ∙ (same ∙ e)) in absurd (cc) in
      more_places i count colour now least (is ∙ same) has grown

  pub none_place : (i count now : ℕ) → IsLeast (BelowIn i) count → own i ≡ none → now ≡ count → IsLeast (BelowIn (i + 1)) now
  none_place i count now least is same = subst (IsLeast (BelowIn (i + 1))) (sym same) (no_more i count least is)

all_but_last : {X : Type 0} (P : X → Type 0) (all xs : List X) (x : X) → all ≡ xs ++ x ∷ [] → All P all → All P xs × P x
all_but_last P all xs x is each =
    let long : length all ≡ length xs + 1 = ap length is ∙ length-append xs (x ∷ []) in (
      λ k d h. subst P (ap (λ l. get_or l k d) is ∙ get_or_append_left xs (x ∷ []) d k h) (each k d (omega arith)),
      subst P (ap (λ l. get_or l (length xs) x) is ∙ get_or_push xs x x (length xs) refl) (each (length xs) x (omega arith)),
    )

module _ {X : Type 0} (P : ℕ → X → Type 0) (more : (a b : ℕ) (x : X) → a ≤ b → P a x → P b x) where
  pub one_rank : (xs : List X) (i count one now : ℕ) (d : X) → i < length xs → IsLeast (λ b. All (P b) (take i xs)) count → IsLeast (λ b. P b (get_or xs i d)) one → now ≡ max count one
      → IsLeast (λ b. All (P b) (take (i + 1) xs)) now
  one_rank xs i count one now d within least here grown =
      let step : i + 1 ≡ suc i = omega arith in
      let next : take (i + 1) xs ≡ take i xs ++ get_or xs i d ∷ [] = ap (λ n. take n xs) step ∙ take-suc xs i d within in
      record {
        meets = subst (λ l. All (P now) l) (sym next)
            (All-push (P now) (take i xs) (get_or xs i d) (λ k e h. more count now (get_or (take i xs) k e) (omega arith) (least.meets k e h)) (more one now (get_or xs i d) (omega arith) here.meets));
        below = λ n meets.
            let both = all_but_last (P n) (take (i + 1) xs) (take i xs) (get_or xs i d) next meets in
            let first = least.below n both.0 in
            let last = here.below n both.1 in
            omega arith;
      }

  pub all_ranks : (xs : List X) (i count : ℕ) → length xs ≤ i → IsLeast (λ b. All (P b) (take i xs)) count → IsLeast (λ b. All (P b) xs) count
  all_ranks xs i count past least = subst (λ l. IsLeast (λ b. All (P b) l) count) (take_all i xs past) least
