-- What the buckets of all places tell.
use Rattle.std.proofs.Common.{◌≡◌, ◌≢◌, ◌<◌, ◌≤◌, ℕ, Bool, true, false, List, length, refl, inl, inr, arith}
use Rattle.std.specs.Prelude.{nat_lt, not}
use Rattle.std.proofs.lemmas.Bool.{cases_Bool, le-ltb, cases_lt, both_ways}
use Rattle.std.proofs.lemmas.List.{get_or_past}
use Rattle.std.proofs.lemmas.List.Folds.{list_any_at}
use Rattle.pg_agenda.specs.Shares.{NONE}
use Rattle.pg_agenda.specs.LevelLists.{is_set, is_any}
use Rattle.pg_agenda.specs.BucketPhases.{bucket_of, IsLowest}

-- no place past the end is in a bucket
pub past_end : (buckets : List ℕ) (place : ℕ) → length buckets ≤ place → bucket_of buckets place ≡ NONE
past_end buckets place ge = get_or_past buckets place NONE ge

-- a place in a bucket is one of the places
pub bucket_within : (buckets : List ℕ) (place bucket : ℕ) → bucket < NONE → bucket_of buckets place ≡ bucket → place < length buckets
bucket_within buckets place bucket lt e = elim (cases_lt place (length buckets)) [
  | inl within ↦ within
  | inr past ↦ absurd (omega (arith, past_end buckets place past, e, lt))
]

-- a bucket that no place below the end has is none's
pub none_in : (buckets : List ℕ) (bucket : ℕ) → bucket < NONE → ((k : ℕ) → k < length buckets → bucket_of buckets k ≢ bucket)
    → (place : ℕ) → bucket_of buckets place ≢ bucket
none_in buckets bucket lt others place e = others place (bucket_within buckets place bucket lt e) e

-- where no flag is set, no place's is
pub none_set : (flags : List Bool) → is_any flags ≡ false → (place : ℕ) → is_set flags place ≡ false
none_set flags none place = elim (cases_lt place (length flags)) [
  | inr past ↦ get_or_past flags place false past
  | inl within ↦ elim (cases_Bool (is_set flags place)) [
    | inr off ↦ off
    | inl on ↦ absurd (both_ways (is_any flags) none (list_any_at (λ flag. flag) flags place false within on))
  ]
]

-- a vote of NONE means that no place is in a bucket
pub none_pending : (buckets : List ℕ) (bucket place : ℕ) → IsLowest buckets bucket → bucket ≡ NONE → nat_lt (bucket_of buckets place) NONE ≡ false
none_pending buckets bucket place is e = le-ltb _ _ (omega (arith, is.lowest place))

pub none_of_not : (r b : Bool) → r ≡ not b → r ≡ true → b ≡ false
none_of_not r false e t = refl
none_of_not r true e t = absurd (both_ways r e t)
