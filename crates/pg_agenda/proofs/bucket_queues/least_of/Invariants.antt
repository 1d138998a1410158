use Rattle.std.proofs.Common.{◌≡◌, ◌<◌, ℕ, length}
use Rattle.pg_agenda.specs.Moves.{home, stamp}
use Rattle.pg_agenda.specs.PlaceLists.{link_at}
use Rattle.pg_agenda.specs.BucketPhases.{bucket_of}
use Rattle.pg_agenda.proofs.Walks.{IsWalked}
use Rattle.pg_agenda.proofs.bucket_queues.least_of.Given as goal

abbrev pub invariant-loop-node : goal.invariant-loop-node
invariant-loop-node l = record {
  within : l.node < length l.lists.next.items;
  its : home l.lists.moves l.node ≡ l.list;
  stands : (place : ℕ) × (bucket_of l.buckets place ≡ l.bound.bucket);
  walked : IsWalked (link_at l.lists.next.items) l.buckets l.list l.node l.bound.bucket;
}

abbrev pub decreases-loop-node : goal.decreases-loop-node
decreases-loop-node l = stamp l.lists.moves l.node
