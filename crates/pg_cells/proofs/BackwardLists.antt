-- Lists: an entry after a write, and what holds of a list that has one more element under a test.
use Rattle.std.proofs.Common.{◌≡◌, ◌≢◌, ◌⊎◌, inr, ℕ, zero, suc, ◌<◌, Bool, true, false, cond, List, [], ◌∷◌, All, Contains, length, set, replicate, slice_get, Some, refl, ap, subst, arith}
use Rattle.std.proofs.lemmas.List.Elements.{All-cons, All-tail}
use Rattle.std.proofs.lemmas.Option.{slice_get_within, get_or_from_slice_get}
use Rattle.pg_base.proofs.Members.{contains_first, contains_later, contains_cases}

module _ {X : Type 0} where
  pub set_here : (xs : List X) (k : ℕ) (x : X) → k < length xs → slice_get (set xs k x) k ≡ Some x
  set_here [] k x h = absurd (omega arith)
  set_here (y ∷ xs) zero x h = refl
  set_here (y ∷ xs) (suc k) x h = set_here xs k x (omega arith)

  pub set_else : (xs : List X) (k j : ℕ) (x : X) → j ≢ k → slice_get (set xs k x) j ≡ slice_get xs j
  set_else [] k j x h = refl
  set_else (y ∷ xs) zero zero x h = absurd (h refl)
  set_else (y ∷ xs) zero (suc j) x h = refl
  set_else (y ∷ xs) (suc k) zero x h = refl
  set_else (y ∷ xs) (suc k) (suc j) x h = set_else xs k j x (λ e. h (ap suc e))

  pub some_at : (xs : List X) (k : ℕ) → k < length xs → (x : X) × (slice_get xs k ≡ Some x)
  some_at [] k h = absurd (omega arith)
  some_at (x ∷ xs) zero h = (x, refl)
  some_at (x ∷ xs) (suc k) h = some_at xs k (omega arith)

  pub replicate_at : (n k : ℕ) (x : X) → k < n → slice_get (replicate n x) k ≡ Some x
  replicate_at zero k x h = absurd (omega arith)
  replicate_at (suc n) zero x h = refl
  replicate_at (suc n) (suc k) x h = replicate_at n k x (omega arith)

  pub all_at : (P : X → Type 0) (xs : List X) (k : ℕ) (x : X) → All P xs → slice_get xs k ≡ Some x → P x
  all_at P xs k x all at = subst P (get_or_from_slice_get xs k x x at) (all k x (slice_get_within xs k x at))

  -- One more element, where a test is passed.
  pub all_if : (P : X → Type 0) (test : Bool) (x : X) (xs : List X) → (test ≡ true → P x) → All P xs → All P (cond test (x ∷ xs) xs)
  all_if P true x xs first rest = All-cons P x xs (first refl) rest
  all_if P false x xs first rest = rest

  pub all_rest : (P : X → Type 0) (test : Bool) (x : X) (xs : List X) → All P (cond test (x ∷ xs) xs) → All P xs
  all_rest P true x xs all = All-tail P x xs all
  all_rest P false x xs all = all

  pub contains_if : (test : Bool) (y : X) (xs : List X) (x : X) → Contains xs x → Contains (cond test (y ∷ xs) xs) x
  contains_if true y xs x c = contains_later y xs x c
  contains_if false y xs x c = c

  pub contains_here : (test : Bool) (y : X) (xs : List X) (x : X) → test ≡ true → y ≡ x → Contains (cond test (y ∷ xs) xs) x
  contains_here true y xs x passes same = subst (Contains (y ∷ xs)) same (contains_first y xs)
  contains_here false y xs x passes same = absurd (cc)

  pub contains_either : (test : Bool) (y : X) (xs : List X) (x : X) → Contains (cond test (y ∷ xs) xs) x → (y ≡ x) ⊎ Contains xs x
  contains_either true y xs x c = contains_cases y xs x c
  contains_either false y xs x c = inr c
