use Rattle.std.proofs.Common.{◌≡◌, ◌≢◌, ◌+◌, ◌-◌, ◌<◌, length, set, inl, inr, sym, ap, ◌∙◌, arith}
use Rattle.std.proofs.lemmas.List.{length-set}
use Rattle.pg_agenda.specs.Shares.{NONE}
use Rattle.pg_agenda.specs.Moves.{home}
use Rattle.pg_agenda.specs.PlaceLists.{link_at}
use Rattle.pg_agenda.specs.BucketPhases.{bucket_of}
use Rattle.pg_agenda.specs.BucketQueues.{far_or_near}
use Rattle.pg_agenda.proofs.Lowest.{bucket_by_head}
use Rattle.pg_agenda.proofs.Queues.{near_from, near_to, near_head, head_none}
use Rattle.pg_agenda.proofs.Requeued.{bucket_here, bounded_after, head_differs, its_or_not, kept_after, told_still}
use Rattle.pg_agenda.proofs.bucket_queues.BucketQueue.take.Goals as goal

pub returns-clause-some : goal.returns-clause-some
returns-clause-some c =
    let s = c.args.self.now in
    let p = c.in_ok-place.place in
    let bucket = c.args.bucket in
    let its : home s.lists.moves p ≡ far_or_near s.heads s.first bucket = c.in_ok-place.ensures.some ∙ c.head_of.ensures in
    let in_places : p < length s.buckets.items = omega (arith, c.in_ok-place.ensures.within, s.places) in
    let n = near_from s.first bucket c.requires in
    let e = bucket_by_head s.heads s.first s.buckets.items p (bucket - s.first) (omega (arith, s.after)) (omega (arith, n, near_to s.first bucket c.requires)) (sym (s.kept p in_places) ∙ its ∙ near_head s.heads s.first bucket c.requires) in
    omega (arith, e, n)

pub invariant_of-self-2 : goal.invariant_of-self-2
invariant_of-self-2 c =
    let s = c.args.self.now in
    let p = c.in_ok-place.place in
    let bucket = c.args.bucket in
    let buckets = s.buckets.items in
    let taken = c.take_last.new.self in
    let long : length (set buckets p NONE) ≡ length buckets = length-set buckets p NONE in
    let its : home s.lists.moves p ≡ far_or_near s.heads s.first bucket = c.in_ok-place.ensures.some ∙ c.head_of.ensures in
    let in_places : p < length buckets = omega (arith, c.in_ok-place.ensures.within, s.places) in
    record {
      places = omega (arith, c.in_ok-place.ensures.count, s.places, long);
      after = omega (arith, s.after, long);
      within = omega (arith, s.within, c.in_ok-place.ensures.nodes);
      spare_after = omega (arith, s.spare_after, long);
      spare_within = omega (arith, s.spare_within, c.in_ok-place.ensures.nodes);
      apart = s.apart;
      window = c.renew.ensures.length ∙ s.window;
      kept = kept_after s.heads s.first buckets p NONE (home s.lists.moves) (home taken.moves) in_places s.kept
          (c.in_ok-place.ensures.alone ∙ sym (head_none s.heads s.first (set buckets p NONE) p (omega (arith, bucket_here buckets p NONE in_places)))) c.in_ok-place.ensures.others;
      told = λ slot lt. elim (its_or_not s.first bucket slot) [
        | inl same ↦
            ap (bucket_of c.renew.new.lowest.items) same.1 ∙ c.renew.ensures.here same.0
            ∙ ap (λ xs. bucket_of xs (link_at taken.next.items (s.heads + (bucket - s.first)))) c.deref.ensures.value
            ∙ ap (λ i. bucket_of (set buckets p NONE) (link_at taken.next.items (s.heads + i))) (sym same.1)
        | inr other ↦
            let differs : s.heads + slot ≢ far_or_near s.heads s.first bucket = head_differs s.heads s.first bucket slot lt other in
            told_still s.lists.linked s.heads slot (omega (arith, s.places, s.after)) (omega (arith, s.within)) buckets p NONE (link_at taken.next.items) (λ e. differs (e ∙ its))
            (c.in_ok-place.ensures.kept (s.heads + slot) (omega (arith, s.places, s.after)) (λ e. differs (e ∙ c.head_of.ensures)))
            (bucket_of c.renew.new.lowest.items slot) (c.renew.ensures.others slot other ∙ s.told slot lt)
      ];
      bounded = bounded_after s.heads s.first buckets p NONE (home s.lists.moves) (home taken.moves) s.far.bucket s.far.bucket in_places s.bounded (omega arith)
          (λ h. absurd (omega (arith, h, c.in_ok-place.ensures.alone, in_places, s.after))) c.in_ok-place.ensures.others;
    }
