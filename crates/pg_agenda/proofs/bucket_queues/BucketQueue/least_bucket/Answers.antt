use Rattle.std.proofs.Common.{◌≡◌, ◌+◌, ◌<◌, ◌≤◌, ℕ, min, length, subst, arith}
use Rattle.std.specs.Prelude.{unwrap_or}
use Rattle.pg_simd.specs.Kernels.{IsLeast}
use Rattle.pg_agenda.specs.Shares.{NONE}
use Rattle.pg_agenda.specs.Moves.{home}
use Rattle.pg_agenda.specs.PlaceLists.{link_at}
use Rattle.pg_agenda.specs.BucketPhases.{bucket_of}
use Rattle.pg_agenda.proofs.Lowest.{least_some, lowest_by, near_stands}
use Rattle.pg_agenda.proofs.Queues.{min_either, min_left, min_right}
use Rattle.pg_agenda.proofs.bucket_queues.BucketQueue.least_bucket.Goals as goal

pub returns-then-near-self-clause-lowest : goal.returns-then-near-self-clause-lowest
returns-then-near-self-clause-lowest c =
    let s = c.args.self.now in
    let buckets = s.buckets.items in
    let near = c.unwrap_or-near.result in
    let e : near ≡ unwrap_or c.least.result NONE = c.unwrap_or-near.ensures in
    let is : IsLeast s.lowest.items near = rw e (rw (← c.deref.ensures.value) (least_some _ c.least.result c.least.ensures.none c.least.ensures.least (omega (arith, c.deref.ensures.len, s.window)))) in
    let far : (place : ℕ) → place < length buckets → home s.lists.moves place ≡ s.heads + 1024 → near ≤ bucket_of buckets place = λ place lt h. omega (arith, s.bounded place lt h) in
    lowest_by s.lists.linked s.lists.within buckets s.lowest.items s.heads s.first s.places (omega (arith, s.places, s.after)) s.within s.kept s.told s.window near near is (omega arith) (omega arith) far (near_stands buckets s.lowest.items (link_at s.lists.next.items) s.heads near s.window s.told is)

pub returns-clause-lowest : goal.returns-clause-lowest
returns-clause-lowest c =
    let s = c.args.self.now in
    let buckets = s.buckets.items in
    let near = c.unwrap_or-near.result in
    let e : near ≡ unwrap_or c.least.result NONE = c.unwrap_or-near.ensures in
    let is : IsLeast s.lowest.items near = rw e (rw (← c.deref.ensures.value) (least_some _ c.least.result c.least.ensures.none c.least.ensures.least (omega (arith, c.deref.ensures.len, s.window)))) in
    let other = c.made_sharp-self.result.bucket in
    let value : c.deref-2.result.now ≡ buckets = c.deref-2.ensures.value in
    let other_stands : (x : ℕ) × (bucket_of buckets x ≡ other) = subst (λ xs. (x : ℕ) × (bucket_of xs x ≡ other)) value c.made_sharp-self.ensures.stands in
    let sharp : (place : ℕ) → place < length buckets → home s.lists.moves place ≡ s.heads + 1024 → other ≤ bucket_of buckets place =
    subst (λ xs. (place : ℕ) → place < length xs → home s.lists.moves place ≡ s.heads + 1024 → other ≤ bucket_of xs place) value c.made_sharp-self.ensures.lowest in
    let near_one : (x : ℕ) × (bucket_of buckets x ≡ near) = near_stands buckets s.lowest.items (link_at s.lists.next.items) s.heads near s.window s.told is in
    let far : (place : ℕ) → place < length buckets → home s.lists.moves place ≡ s.heads + 1024 → min near other ≤ bucket_of buckets place =
    λ place lt h. omega (arith, sharp place lt h, min_right near other) in
    rw c.min.ensures (lowest_by s.lists.linked s.lists.within buckets s.lowest.items s.heads s.first s.places (omega (arith, s.places, s.after)) s.within s.kept s.told s.window near (min near other) is (min_left near other) (omega (arith, min_left near other)) far (min_either (λ b. (x : ℕ) × (bucket_of buckets x ≡ b)) near other near_one other_stands))
