-- What a list contains, and at which index; lists of which each two elements are related.
use Rattle.std.proofs.Common.{◌≡◌, ℕ, ◌<◌, List, [], ◌∷◌, ◌++◌, Some, length, get_or, map, slice_get, AllPairs, Contains, zero, suc, ap, subst, refl, ◌∙◌, ⊎_elim, arith}
use Rattle.std.proofs.lemmas.Bool.{cases_order}
use Rattle.std.proofs.lemmas.Option.{none-some, same_Some, slice_get_within, slice_get-get_or, get_or_from_slice_get}
use Rattle.std.proofs.lemmas.List.{length-map, get_or-map}
use Rattle.std.proofs.lemmas.List.Elements.{All-append, All-map}
use Rattle.std.proofs.lemmas.List.Kept.{AllPairs-cons}
use Rattle.pg_base.proofs.Members.{contains_first, contains_later, contains_cases}

module _ {X : Type 0} where
  pub Contains-at : (xs : List X) (k : ℕ) (x : X) → slice_get xs k ≡ Some x → Contains xs x
  Contains-at xs k x at = (k, slice_get_within xs k x at, get_or_from_slice_get xs k x x at)

  pub index_of : (xs : List X) (x : X) → Contains xs x → (k : ℕ) × (slice_get xs k ≡ Some x)
  index_of xs x among = (among.0, slice_get-get_or xs among.0 x among.1 ∙ ap Some among.2)

  -- where each element is related to all later ones, two elements of which neither is related to the other have one index
  pub same_index : (R : X → X → Type 0) (xs : List X) → AllPairs R xs → (k l : ℕ) (x y : X) → slice_get xs k ≡ Some x → slice_get xs l ≡ Some y → (R x y → ⊥) → (R y x → ⊥) → k ≡ l
  same_index R xs pairs k l x y at at' apart apart' =
      let ix = get_or_from_slice_get xs k x x at in
      let iy = get_or_from_slice_get xs l y x at' in
      ⊎_elim
      (λ same. same)
      (λ differ. ⊎_elim
      (λ less. absurd (apart (subst (R x) iy (subst (λ (z : X). R z (get_or xs l x)) ix (pairs k l x less (slice_get_within xs l y at'))))))
      (λ more. absurd (apart' (subst (R y) ix (subst (λ (z : X). R z (get_or xs k x)) iy (pairs l k x more (slice_get_within xs k x at))))))
      differ)
      (cases_order k l)

  pub AllPairs-nil : (R : X → X → Type 0) → AllPairs R []
  AllPairs-nil R = λ i j d less l. absurd (omega arith)

  pub AllPairs-append : (R : X → X → Type 0) (xs ys : List X) → AllPairs R xs → AllPairs R ys
      → ((i j : ℕ) (d : X) → i < length xs → j < length ys → R (get_or xs i d) (get_or ys j d)) → AllPairs R (xs ++ ys)
  AllPairs-append R [] ys first second across = second
  AllPairs-append R (x ∷ xs) ys first second across =
      AllPairs-cons R x (xs ++ ys)
      (All-append (R x) xs ys (λ k d l. first 0 (suc k) d (omega arith) (omega arith)) (λ k d l. across 0 k d (omega arith) l))
      (AllPairs-append R xs ys (λ i j d less l. first (suc i) (suc j) d (omega arith) (omega arith)) second
      (λ i j d l m. across (suc i) j d (omega arith) m))

module _ {X Y : Type 0} (f : X → Y) where
  pub Contains-map : (xs : List X) (x : X) → Contains xs x → Contains (map f xs) (f x)
  Contains-map xs x among =
      (among.0, omega (arith, among.1, length-map xs f), get_or-map f xs among.0 x (f x) among.1 ∙ ap f among.2)

  pub Contains-from_map : (xs : List X) (y : Y) → Contains (map f xs) y → (x : X) × Contains xs x × (f x ≡ y)
  Contains-from_map [] y among = absurd (omega (arith, among.1))
  Contains-from_map (x ∷ xs) y among =
      ⊎_elim
      (λ same. (x, contains_first x xs, same))
      (λ later. let found = Contains-from_map xs y later in (found.0, contains_later x xs found.0 found.1, found.2))
      (contains_cases (f x) (map f xs) y among)

  pub slice_get-from_map : (xs : List X) (k : ℕ) (y : Y) → slice_get (map f xs) k ≡ Some y → (x : X) × (slice_get xs k ≡ Some x) × (f x ≡ y)
  slice_get-from_map [] k y at = absurd (none-some y at)
  slice_get-from_map (x ∷ xs) zero y at = (x, refl, same_Some (f x) y at)
  slice_get-from_map (x ∷ xs) (suc k) y at = slice_get-from_map xs k y at

  pub AllPairs-map : (R : Y → Y → Type 0) (xs : List X) → AllPairs (λ a b. R (f a) (f b)) xs → AllPairs R (map f xs)
  AllPairs-map R [] pairs = AllPairs-nil R
  AllPairs-map R (x ∷ xs) pairs =
      AllPairs-cons R (f x) (map f xs)
      (All-map (R (f x)) f xs (λ k d l. pairs 0 (suc k) d (omega arith) (omega arith)))
      (AllPairs-map R xs (λ i j d less l. pairs (suc i) (suc j) d (omega arith) (omega arith)))
