-- Where a queue of buckets keeps a place, by its bucket.
use Rattle.std.proofs.Common.{◌≡◌, ◌+◌, ◌-◌, ◌<◌, ◌≤◌, ℕ, true, false, List, refl, inl, inr, arith}
use Rattle.std.specs.Prelude.{min}
use Rattle.std.proofs.lemmas.Bool.{cases_Bool, cases_lt}
use Rattle.std.proofs.lemmas.Grind.{common_steps}
use Rattle.pg_agenda.specs.Shares.{NONE}
use Rattle.pg_agenda.specs.BucketPhases.{bucket_of}
use Rattle.pg_agenda.specs.BucketQueues.{is_near, far_or_near, head_of}

-- the bounds of the window
pub near_from : (first bucket : ℕ) → is_near first bucket ≡ true → first ≤ bucket
near_from first bucket n = grind (arith, common_steps)

pub near_to : (first bucket : ℕ) → is_near first bucket ≡ true → bucket < first + 1024
near_to first bucket n = grind (arith, common_steps)

pub near_head : (heads first bucket : ℕ) → is_near first bucket ≡ true → far_or_near heads first bucket ≡ heads + (bucket - first)
near_head heads first bucket n = rw n refl

pub far_head : (heads first bucket : ℕ) → is_near first bucket ≡ false → far_or_near heads first bucket ≡ heads + 1024
far_head heads first bucket n = rw n refl

-- each list is one of the queue's
pub head_between : (heads first bucket : ℕ) → (o : ℕ) × (o ≤ 1024) × (far_or_near heads first bucket ≡ heads + o)
head_between heads first bucket = elim (cases_Bool (is_near first bucket)) [
  | inl n ↦ (bucket - first, omega (arith, near_from first bucket n, near_to first bucket n), near_head heads first bucket n)
  | inr n ↦ (1024, omega arith, far_head heads first bucket n)
]

pub far_from_head : (heads first bucket : ℕ) → far_or_near heads first bucket ≡ heads + 1024 → is_near first bucket ≡ false
far_from_head heads first bucket e = elim (cases_Bool (is_near first bucket)) [
  | inl n ↦ absurd (omega (arith, near_from first bucket n, near_to first bucket n, near_head heads first bucket n, e))
  | inr n ↦ n
]

pub head_pending : (heads first : ℕ) (buckets : List ℕ) (place : ℕ) → bucket_of buckets place < NONE
    → head_of heads first buckets place ≡ far_or_near heads first (bucket_of buckets place)
head_pending heads first buckets place lt = grind (arith, common_steps)

pub head_none : (heads first : ℕ) (buckets : List ℕ) (place : ℕ) → NONE ≤ bucket_of buckets place → head_of heads first buckets place ≡ place
head_none heads first buckets place le = grind (arith, common_steps)

-- the lesser of two numbers is one of them
pub min_either : (P : ℕ → Type 0) (a b : ℕ) → P a → P b → P (min a b)
min_either P a b p q = elim (cases_lt a b) [
  | inl lt ↦ let e : min a b ≡ a = grind (arith, common_steps) in rw e p
  | inr le ↦ let e : min a b ≡ b = grind (arith, common_steps) in rw e q
]

pub min_left : (a b : ℕ) → min a b ≤ a
min_left a b = grind (arith, common_steps)

pub min_right : (a b : ℕ) → min a b ≤ b
min_right a b = grind (arith, common_steps)
