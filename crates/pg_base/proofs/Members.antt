-- Lists by their first element: what they contain, what a filter keeps, and what holds of each two.
use Rattle.std.proofs.Common.{Bool, true, false, cond, filter, sym, ◌∙◌, subst, ⊎_elim, ◌≡◌, ℕ, zero, suc, ◌<◌, ◌⊎◌, List, [], ◌∷◌, length, get_or, refl, inl, inr, arith, All, AllPairs, Contains}
use Rattle.std.proofs.lemmas.Bool.{false≢true}

module _ {X : Type 0} where
  pub contains_first : (x : X) (xs : List X) → Contains (x ∷ xs) x
  contains_first x xs = (zero, omega arith, refl)

  pub contains_later : (y : X) (xs : List X) (x : X) → Contains xs x → Contains (y ∷ xs) x
  contains_later y xs x c = (suc c.0, omega arith, c.2)

  at_cases : (y : X) (xs : List X) (x : X) (k : ℕ) → k < length (y ∷ xs) → get_or (y ∷ xs) k x ≡ x → (y ≡ x) ⊎ Contains xs x
  at_cases y xs x zero within is = inl is
  at_cases y xs x (suc k) within is = inr (k, omega arith, is)

  pub contains_cases : (y : X) (xs : List X) (x : X) → Contains (y ∷ xs) x → (y ≡ x) ⊎ Contains xs x
  contains_cases y xs x c = at_cases y xs x c.0 c.1 c.2

  pub AllPairs-cons : (R : X → X → Type 0) (x : X) (xs : List X) → All (R x) xs → AllPairs R xs → AllPairs R (x ∷ xs)
  AllPairs-cons R x xs first rest zero zero d below within = absurd (omega arith)
  AllPairs-cons R x xs first rest zero (suc j) d below within = first j d (omega arith)
  AllPairs-cons R x xs first rest (suc i) zero d below within = absurd (omega arith)
  AllPairs-cons R x xs first rest (suc i) (suc j) d below within = rest i j d (omega arith) (omega arith)

  filter_step : (p : X → Bool) (y : X) (xs : List X) (x : X) (passes : Bool) → p y ≡ passes → (Contains (filter p xs) x → Contains xs x × (p x ≡ true)) → Contains (cond passes (y ∷ filter p xs) (filter p xs)) x → Contains (y ∷ xs) x × (p x ≡ true)
  filter_step p y xs x true is rest among =
      ⊎_elim
      (λ same. (subst (Contains (y ∷ xs)) same (contains_first y xs), subst (λ (z : X). p z ≡ true) same is))
      (λ later. let r = rest later in (contains_later y xs x r.0, r.1))
      (contains_cases y (filter p xs) x among)
  filter_step p y xs x false is rest among = let r = rest among in (contains_later y xs x r.0, r.1)

  -- What a filter keeps is in the list and passes the test.
  pub Contains-filter : (p : X → Bool) (xs : List X) (x : X) → Contains (filter p xs) x → Contains xs x × (p x ≡ true)
  Contains-filter p [] x among = absurd (omega arith)
  Contains-filter p (y ∷ xs) x among = filter_step p y xs x (p y) refl (Contains-filter p xs x) among

  kept_step : (p : X → Bool) (y : X) (xs : List X) (x : X) (passes : Bool) → p y ≡ passes → Contains (filter p xs) x ⊎ (y ≡ x) → p x ≡ true → Contains (cond passes (y ∷ filter p xs) (filter p xs)) x
  kept_step p y xs x true is (inl rest) holds = contains_later y (filter p xs) x rest
  kept_step p y xs x true is (inr same) holds =
      subst (Contains (y ∷ filter p xs)) same (contains_first y (filter p xs))
  kept_step p y xs x false is (inl rest) holds = rest
  kept_step p y xs x false is (inr same) holds =
      let failed : p x ≡ false = subst (λ (z : X). p z ≡ false) same is in absurd (false≢true (sym failed ∙ holds))

  -- A filter keeps what passes the test.
  pub Contains-kept : (p : X → Bool) (xs : List X) (x : X) → Contains xs x → p x ≡ true → Contains (filter p xs) x
  Contains-kept p [] x among holds = absurd (omega arith)
  Contains-kept p (y ∷ xs) x among holds =
      kept_step p y xs x (p y) refl
      (⊎_elim (λ same. inr same) (λ later. inl (Contains-kept p xs x later holds)) (contains_cases y xs x among))
      holds
