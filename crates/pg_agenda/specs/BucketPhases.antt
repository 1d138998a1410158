-- Pending places by buckets, and the phases on which ranks agree.
-- Source: Meyer and Sanders, Delta-stepping: a parallelizable shortest path algorithm (Journal of Algorithms 49, 2003).
use Rattle.std.specs.Prelude.{◌≡◌, ◌+◌, ◌≤◌, ◌==◌, ◌%◌, ◌&&◌, ◌||◌, ℕ, Bool, true, false, not, min, nat_le, nat_lt, if◌then◌else◌, List, slice_index_or}
use Rattle.std.specs.List.{fold, list_any}
use Rattle.pg_group.specs.declared.messages.Vote.{Vote}
use Rattle.pg_agenda.specs.declared.agreements.Agreement.{Agreement}
use Rattle.pg_agenda.specs.declared.shares.Share.{Share}
use Rattle.pg_agenda.specs.declared.shares.Share.TheVariants.{Light, Heavy, All}
use Rattle.pg_agenda.specs.Shares.{Places, NONE}
use Rattle.pg_agenda.specs.LevelLists.{is_any, is_set}

-- the bucket in which the place is pending for its light arcs, or NONE
abbrev pub bucket_of : List ℕ → ℕ → ℕ
bucket_of buckets place = slice_index_or buckets place NONE

-- A place in a bucket is pending for its light arcs, a place with its flag set for its heavy arcs.
abbrev pub by_bucket : List ℕ → List Bool → Places
by_bucket buckets heavy Light place = nat_lt (bucket_of buckets place) NONE
by_bucket buckets heavy Heavy place = is_set heavy place
by_bucket buckets heavy All place = false

-- Ready are in the light phase the places of the agreed bucket, in the heavy phase those that are pending for heavy
-- arcs.
abbrev pub ready_by : Agreement → List ℕ → List Bool → Places
ready_by agreed buckets heavy Light place = agreed.light && (bucket_of buckets place == agreed.bucket)
ready_by agreed buckets heavy Heavy place = not agreed.light && is_set heavy place
ready_by agreed buckets heavy All place = false

-- An arc is light where its weight is at most delta.
abbrev pub takes_by : ℕ → Share → ℕ → Bool
takes_by delta Light w = nat_le w delta
takes_by delta Heavy w = nat_lt delta w
takes_by delta All w = true

-- The number is the least bucket of a place, or NONE where no place is in one. (A place past the end is in none.)
pub record IsLowest (buckets : List ℕ) (bucket : ℕ) : Type 0 where
  pub lowest : (place : ℕ) → bucket ≤ bucket_of buckets place
  pub stands : (place : ℕ) × (bucket_of buckets place ≡ bucket)

-- The vote names the least bucket of a place, and in `b` whether a message was sent and whether a place is pending for
-- its heavy arcs.
pub record IsBucketVote (buckets : List ℕ) (heavy : List Bool) (sent : Bool) (vote : Vote) : Type 0 where
  pub lowest : IsLowest buckets vote.a
  pub told : vote.b ≡ (if sent then 1 else 0) + (if is_any heavy then 2 else 0)

-- the least bucket that a vote names, or NONE
abbrev pub least_vote : List Vote → ℕ
least_vote votes = fold (λ least vote. min least vote.a) NONE votes

-- some rank sent a message
abbrev pub has_sent : List Vote → Bool
has_sent votes = list_any (λ vote. vote.b % 2 == 1) votes

-- some rank has a place that is pending for its heavy arcs
abbrev pub has_heavy : List Vote → Bool
has_heavy votes = list_any (λ vote. vote.b == 2 || vote.b == 3) votes

-- While messages are sent, or a place is in the agreed bucket or a lesser one: that bucket's light arcs. Then the
-- heavy arcs. Then the next bucket.
abbrev pub next_agreement : List Vote → Agreement → Agreement
next_agreement votes agreed =
    let least = least_vote votes in
    if has_sent votes || (not (least == NONE) && nat_le least agreed.bucket) then record { bucket = min least agreed.bucket; light = true } else
    if has_heavy votes then record { bucket = agreed.bucket; light = false } else
    if least == NONE then agreed else record { bucket = least; light = true }
