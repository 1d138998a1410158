-- Programs of parts, one after another.
use Rattle.std.proofs.Common.{◌≡◌, ℕ, zero, suc, List, [], ◌∷◌, ◌++◌, length, map, refl, sym, ap, ◌∙◌, subst, arith}
use Rattle.std.specs.Prelude.{slice_get, Some}
use Rattle.pg_group.specs.Entries.{Each}

module _ {X Y : Type 0} (Q : X → Y → Type 0) where
  -- a fact of each entry of a list and the entry of another list in its place
  abbrev pub Beside : List X → List Y → Type 0
  Beside xs ys = Each (λ place y. (x : X) → slice_get xs place ≡ Some x → Q x y) ys

  beside_push : (xs : List X) (ys : List Y) (x : X) (y : Y) → length ys ≡ length xs → Beside xs ys → Q x y → Beside (xs ++ x ∷ []) (ys ++ y ∷ [])
  beside_push [] [] x y long all here zero b at_b a at_a =
      let first : x ≡ a = cc in
      let second : y ≡ b = cc in
      subst (λ c. Q a c) second (subst (λ c. Q c y) first here)
  beside_push [] [] x y long all here (suc k) b at_b a at_a = absurd cc
  beside_push [] (d ∷ ys) x y long all here k b at_b a at_a = absurd (omega arith)
  beside_push (c ∷ xs) [] x y long all here k b at_b a at_a = absurd (omega arith)
  beside_push (c ∷ xs) (d ∷ ys) x y long all here zero b at_b a at_a = all zero b at_b a at_a
  beside_push (c ∷ xs) (d ∷ ys) x y long all here (suc k) b at_b a at_a = beside_push xs ys x y (omega arith) (λ j e f. all (suc j) e f) here k b at_b a at_a

  pub beside_pushed : (xs : List X) (ys zs : List Y) (x : X) (y : Y) → length ys ≡ length xs → zs ≡ ys ++ y ∷ [] → Beside xs ys → Q x y → Beside (xs ++ x ∷ []) zs
  beside_pushed xs ys zs x y long grown all here = subst (λ l. Beside (xs ++ x ∷ []) l) (sym grown) (beside_push xs ys x y long all here)

-- each entry of two lists as long has one beside it
pub other_beside : {X Y : Type 0} (xs : List X) (ys : List Y) → length ys ≡ length xs → (k : ℕ) (y : Y) → slice_get ys k ≡ Some y → (x : X) × (slice_get xs k ≡ Some x)
other_beside [] [] long k y at = absurd cc
other_beside [] (z ∷ ys) long k y at = absurd (omega arith)
other_beside (x ∷ xs) [] long k y at = absurd (omega arith)
other_beside (x ∷ xs) (z ∷ ys) long zero y at = (x, refl)
other_beside (x ∷ xs) (z ∷ ys) long (suc k) y at = other_beside xs ys (omega arith) k y at

-- the entry from which an entry of a mapped list was made
pub entry_from_map : {X Y : Type 0} (f : X → Y) (xs : List X) (k : ℕ) (y : Y) → slice_get (map f xs) k ≡ Some y → (x : X) × (slice_get xs k ≡ Some x) × (f x ≡ y)
entry_from_map f [] k y at = absurd (cc at)
entry_from_map f (x ∷ xs) zero y at = let same : f x ≡ y = cc in (x, refl, same)
entry_from_map f (x ∷ xs) (suc k) y at = entry_from_map f xs k y at

-- what each program has kept from the opening state that its machine shows, it has kept from the one in the list
pub from_openings : {R P : Type 0} (opening : R → P) (machines : List R) (openings : List P) → map opening machines ≡ openings → (K : ℕ → P → P → Type 0) (programs : List P)
    → Each (λ rank p. Each (λ place r. rank ≡ place → K rank (opening r) p) machines) programs
    → (rank : ℕ) (p start : P) → slice_get programs rank ≡ Some p → slice_get openings rank ≡ Some start → K rank start p
from_openings opening machines openings same K programs all rank p start at there =
    let m = entry_from_map opening machines rank start (ap (λ l. slice_get l rank) same ∙ there) in
    subst (λ s. K rank s p) m.2 (all rank p at rank m.0 m.1 refl)

pub no_items : {X : Type 0} (xs : List X) → length xs ≡ 0 → xs ≡ []
no_items [] none = refl
no_items (x ∷ xs) none = absurd (omega arith)
