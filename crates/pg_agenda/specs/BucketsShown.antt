-- What `Buckets` shows its caller.
use Rattle.std.specs.Prelude.{ℕ, Bool, List, length}
use Rattle.pg_agenda.specs.declared.agreements.Agreement.{Agreement}
use Rattle.pg_agenda.specs.declared.buckets.Buckets.{Buckets}
use Rattle.pg_agenda.specs.Shares.{Places}
use Rattle.pg_agenda.specs.BucketPhases.{by_bucket, ready_by}

-- the bucket of each place, or NONE
abbrev pub bucket_list : Buckets → List ℕ
bucket_list agenda = agenda.light.buckets.items

-- for each place whether it is pending for its heavy arcs
abbrev pub heavy_flags : Buckets → List Bool
heavy_flags agenda = agenda.heavy.members.items

-- the phase on which the ranks agreed last
abbrev pub agreement : Buckets → Agreement
agreement agenda = agenda.agreed

-- the width of a bucket, in units of weight
abbrev pub width : Buckets → ℕ
width agenda = agenda.delta

-- how many places there are
abbrev pub place_count : Buckets → ℕ
place_count agenda = length (bucket_list agenda)

-- for which share each place is pending
abbrev pub pending_places : Buckets → Places
pending_places agenda = by_bucket (bucket_list agenda) (heavy_flags agenda)

-- for which share each place is ready
abbrev pub ready_places : Buckets → Places
ready_places agenda = ready_by (agreement agenda) (bucket_list agenda) (heavy_flags agenda)
