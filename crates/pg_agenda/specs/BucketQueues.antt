-- The lists in which a queue of buckets keeps its places: one for each bucket of a window, and one for all other
-- buckets.
use Rattle.std.specs.Prelude.{◌+◌, ◌-◌, ◌&&◌, ℕ, Bool, nat_le, nat_lt, if◌then◌else◌, List}
use Rattle.pg_agenda.specs.declared.bucket_queues.TheConstants.{WINDOW}
use Rattle.pg_agenda.specs.Shares.{NONE}
use Rattle.pg_agenda.specs.BucketPhases.{bucket_of}

-- whether the bucket is one of the window that begins with `first`
abbrev pub is_near : ℕ → ℕ → Bool
is_near first bucket = nat_le first bucket && (nat_lt bucket (first + WINDOW) && nat_lt bucket NONE)

-- The head of the list of a place in this bucket: the heads of the window's lists follow one another from `heads` on,
-- then comes the far list's.
abbrev pub far_or_near : ℕ → ℕ → ℕ → ℕ
far_or_near heads first bucket = if is_near first bucket then heads + (bucket - first) else heads + WINDOW

-- A place in no bucket is in no list.
abbrev pub head_of : ℕ → ℕ → List ℕ → ℕ → ℕ
head_of heads first buckets place = if nat_lt (bucket_of buckets place) NONE then far_or_near heads first (bucket_of buckets place) else place
