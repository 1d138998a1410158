use Rattle.std.proofs.Common.{◌≡◌, ◌⊎◌, ◌+◌, ◌<◌, ◌≤◌, ℕ, length}
use Rattle.pg_agenda.specs.Shares.{NONE}
use Rattle.pg_agenda.specs.Moves.{home}
use Rattle.pg_agenda.specs.BucketPhases.{bucket_of}
use Rattle.pg_agenda.specs.BucketQueues.{head_of}
use Rattle.pg_agenda.proofs.bucket_queues.move_lists.Given as goal

abbrev pub invariant-loop-list : goal.invariant-loop-list
invariant-loop-list l = record {
  nodes : length l.lists.next.items ≡ length l.fn.lists.next.items;
  count : l.lists.count ≡ l.fn.lists.count;
  moved : (place : ℕ) → place < length l.buckets → (home l.lists.moves place ≡ head_of l.heads l.first l.buckets place)
      ⊎ (l.from + l.list ≤ home l.lists.moves place) × (home l.lists.moves place ≤ l.from + 1024) × (bucket_of l.buckets place < NONE);
  bound : (place : ℕ) → place < length l.buckets → home l.lists.moves place ≡ l.heads + 1024 → l.bound.bucket ≤ bucket_of l.buckets place;
}
