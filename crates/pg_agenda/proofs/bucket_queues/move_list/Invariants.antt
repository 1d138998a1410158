use Rattle.std.proofs.Common.{◌≡◌, ◌≢◌, ◌⊎◌, ◌+◌, ◌<◌, ◌≤◌, ℕ, length}
use Rattle.pg_agenda.specs.Moves.{home}
use Rattle.pg_agenda.specs.PlaceLists.{front}
use Rattle.pg_agenda.specs.BucketPhases.{bucket_of}
use Rattle.pg_agenda.specs.BucketQueues.{head_of}
use Rattle.pg_agenda.proofs.bucket_queues.move_list.Given as goal

abbrev pub invariant-loop-place : goal.invariant-loop-place
invariant-loop-place l = record {
  nodes : length l.lists.next.items ≡ length l.fn.lists.next.items;
  count : l.lists.count ≡ l.fn.lists.count;
  stay : (place : ℕ) → place < length l.buckets → home l.fn.lists.moves place ≢ l.from → home l.lists.moves place ≡ home l.fn.lists.moves place;
  moved : (place : ℕ) → place < length l.buckets → home l.fn.lists.moves place ≡ l.from
      → (home l.lists.moves place ≡ l.from) ⊎ (home l.lists.moves place ≡ head_of l.heads l.first l.buckets place);
  bound : (place : ℕ) → place < length l.buckets → home l.lists.moves place ≡ l.heads + 1024 → l.bound.bucket ≤ bucket_of l.buckets place;
}

abbrev pub decreases-loop-place : goal.decreases-loop-place
decreases-loop-place l = front l.lists.moves l.lists.next.items l.from
