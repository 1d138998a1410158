-- Entries of a list by their places, and marks by their votes.
use Rattle.std.proofs.Common.{◌≡◌, ℕ, zero, suc, ◌<◌, List, [], ◌∷◌, length, refl, ap, arith}
use Rattle.std.specs.Prelude.{slice_get, Some}
use Rattle.pg_group.specs.declared.messages.Body.{Body}
use Rattle.pg_group.specs.declared.messages.Body.TheVariants.{Item, Mark}
use Rattle.pg_group.specs.Rounds.{marks, votes_of}

module _ {X : Type 0} where
  -- the entry of a rank within the list
  pub some_at : (xs : List X) (k : ℕ) → k < length xs → (x : X) × (slice_get xs k ≡ Some x)
  some_at [] k h = absurd (omega arith)
  some_at (x ∷ xs) zero h = (x, refl)
  some_at (x ∷ xs) (suc k) h = some_at xs k (omega arith)

  -- an entry's place is within its list
  pub within_range : (xs : List X) (k : ℕ) (x : X) → slice_get xs k ≡ Some x → k < length xs
  within_range [] k x at = absurd (cc at)
  within_range (y ∷ xs) zero x at = omega arith
  within_range (y ∷ xs) (suc k) x at = let rest = within_range xs k x at in omega (arith, rest)

module _ {B : Type 0} where
  pub marks_counted : (bs : List (Body B)) → marks bs ≡ length (votes_of bs)
  marks_counted [] = refl
  marks_counted (Item x ∷ bs) = marks_counted bs
  marks_counted (Mark v ∷ bs) = ap suc (marks_counted bs)
