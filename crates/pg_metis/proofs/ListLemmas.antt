-- Lists by their first element: what holds of each two.
use Rattle.std.proofs.Common.{◌≡◌, ◌≢◌, ℕ, zero, suc, eqb, List, [], ◌∷◌, ◌++◌, map, inl, inr, sym, ◌∙◌, subst, arith, All, AllPairs, Contains, IsPermutation}
use Rattle.std.proofs.lemmas.Bool.{cases_eq, eq-eqb, ne_eqb}
use Rattle.std.proofs.lemmas.Bool.Decides.{Decides-eqb}
use Rattle.std.proofs.lemmas.List.{get_or-map, length-map}
use Rattle.std.proofs.lemmas.List.Elements.{All-append, All-contains_itself, All-map, All-weaker}
use Rattle.std.proofs.lemmas.Map.Keys.{IsDistinct-IsPermutation}
use Rattle.std.proofs.lemmas.Map.Made.{AllPairs-from_IsDistinct, IsDistinct-from_AllPairs}
use Rattle.pg_base.proofs.Members.{AllPairs-cons, contains_first, contains_later}

module _ {X : Type 0} (R : X → X → Type 0) where
  pub AllPairs-nil : AllPairs R []
  AllPairs-nil i j d below within = absurd (omega arith)

  pub AllPairs-head : (x : X) (xs : List X) → AllPairs R (x ∷ xs) → All (R x) xs
  AllPairs-head x xs all k d within = all zero (suc k) d (omega arith) (omega arith)

  pub AllPairs-tail : (x : X) (xs : List X) → AllPairs R (x ∷ xs) → AllPairs R xs
  AllPairs-tail x xs all i j d below within = all (suc i) (suc j) d (omega arith) (omega arith)

  pub AllPairs-append : (xs ys : List X) → AllPairs R xs → AllPairs R ys → ((x y : X) → Contains xs x → Contains ys y → R x y) → AllPairs R (xs ++ ys)
  AllPairs-append [] ys first second across = second
  AllPairs-append (x ∷ xs) ys first second across =
      let here : All (R x) ys = All-weaker (Contains ys) (R x) (λ y c. across x y (contains_first x xs) c) ys (All-contains_itself ys) in
      let rest = AllPairs-append xs ys (AllPairs-tail x xs first) second (λ y z c d. across y z (contains_later x xs y c) d) in
      AllPairs-cons R x (xs ++ ys) (All-append (R x) xs ys (AllPairs-head x xs first) here) rest

pub AllPairs-map : {X Y : Type 0} (R : Y → Y → Type 0) (f : X → Y) (xs : List X) → AllPairs (λ a b. R (f a) (f b)) xs → AllPairs R (map f xs)
AllPairs-map R f [] all = AllPairs-nil R
AllPairs-map R f (x ∷ xs) all =
    AllPairs-cons R (f x) (map f xs) (All-map (R (f x)) f xs (AllPairs-head (λ a b. R (f a) (f b)) x xs all)) (AllPairs-map R f xs (AllPairs-tail (λ a b. R (f a) (f b)) x xs all))

pub AllPairs-from_map : {X Y : Type 0} (R : Y → Y → Type 0) (f : X → Y) (xs : List X) → AllPairs R (map f xs) → AllPairs (λ a b. R (f a) (f b)) xs
AllPairs-from_map R f [] all = AllPairs-nil (λ a b. R (f a) (f b))
AllPairs-from_map R f (x ∷ xs) all =
    let later = AllPairs-head R (f x) (map f xs) all in
    AllPairs-cons (λ a b. R (f a) (f b)) x xs (λ k d within. subst (R (f x)) (get_or-map f xs k d (f d) within) (later k (f d) (let long = length-map xs f in omega arith))) (AllPairs-from_map R f xs (AllPairs-tail R (f x) (map f xs) all))

flips : (x y : ℕ) → eqb x y ≡ eqb y x
flips x y = elim (cases_eq x y) [
  | inl same ↦ eq-eqb x y same ∙ sym (eq-eqb y x (sym same))
  | inr other ↦ ne_eqb x y other ∙ sym (ne_eqb y x (λ same. other (sym same)))
]

-- Numbers of which each two differ still do in another order.
pub differ_moved : (xs ys : List ℕ) → IsPermutation xs ys → AllPairs (λ x y. x ≢ y) xs → AllPairs (λ x y. x ≢ y) ys
differ_moved xs ys moved all =
    AllPairs-from_IsDistinct Decides-eqb ys (IsDistinct-IsPermutation eqb flips xs ys moved (IsDistinct-from_AllPairs Decides-eqb xs all))
