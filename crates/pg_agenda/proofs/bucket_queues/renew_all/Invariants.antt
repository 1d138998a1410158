use Rattle.std.proofs.Common.{◌≡◌, ◌+◌, ◌<◌, ℕ, length}
use Rattle.pg_agenda.specs.PlaceLists.{link_at}
use Rattle.pg_agenda.specs.BucketPhases.{bucket_of}
use Rattle.pg_agenda.proofs.bucket_queues.renew_all.Given as goal

abbrev pub invariant-loop-slot : goal.invariant-loop-slot
invariant-loop-slot l = record {
  many : length l.lowest.items ≡ length l.fn.lowest.items;
  each : (slot : ℕ) → slot < l.slot → bucket_of l.lowest.items slot ≡ bucket_of l.buckets (link_at l.lists.next.items (l.heads + slot));
}
