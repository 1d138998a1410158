use Rattle.std.proofs.Common.{◌≡◌, ◌≢◌, ◌+◌, ◌-◌, true, length, set, inl, inr, sym, subst, ap, ◌∙◌, arith}
use Rattle.std.proofs.lemmas.List.{length-set, get_or_read}
use Rattle.pg_agenda.specs.Shares.{NONE}
use Rattle.pg_agenda.specs.Moves.{home}
use Rattle.pg_agenda.specs.PlaceLists.{link_at}
use Rattle.pg_agenda.specs.BucketPhases.{bucket_of}
use Rattle.pg_agenda.specs.BucketQueues.{is_near, far_or_near}
use Rattle.pg_agenda.proofs.Queues.{far_from_head, head_pending}
use Rattle.pg_agenda.proofs.Requeued.{bucket_here, bounded_after, head_differs, home_differs, its_or_not, kept_after, told_still}
use Rattle.pg_agenda.proofs.bucket_queues.BucketQueue.put.Goals as goal

pub invariant_of-self : goal.invariant_of-self
invariant_of-self c =
    let s = c.args.self.now in
    let p = c.args.place in
    let bucket = c.args.bucket in
    let buckets = s.buckets.items in
    let after = set buckets p bucket in
    let lists = c.put.new.self in
    let from = c.index-from.result.now in
    let read : from ≡ bucket_of buckets p = get_or_read buckets p from c.requires.place c.index-from.ensures NONE in
    let long : length after ≡ length buckets = length-set buckets p bucket in
    let here : bucket_of after p ≡ bucket = bucket_here buckets p bucket c.requires.place in
    let put_at : home lists.moves p ≡ far_or_near s.heads s.first bucket = c.put.ensures.here ∙ c.head_of.ensures in
    record {
      places = omega (arith, c.put.ensures.count, s.places, long);
      after = omega (arith, s.after, long);
      within = omega (arith, s.within, c.put.ensures.nodes);
      spare_after = omega (arith, s.spare_after, long);
      spare_within = omega (arith, s.spare_within, c.put.ensures.nodes);
      apart = s.apart;
      window = c.renew-2.ensures.length ∙ c.renew.ensures.length ∙ s.window;
      kept = kept_after s.heads s.first buckets p bucket (home s.lists.moves) (home lists.moves) c.requires.place s.kept
          (put_at ∙ ap (far_or_near s.heads s.first) (sym here) ∙ sym (head_pending s.heads s.first after p (omega (arith, here, c.requires.bucket)))) c.put.ensures.others;
      told = λ slot lt. elim (its_or_not s.first bucket slot) [
        | inl same ↦
            ap (bucket_of c.renew-2.new.lowest.items) same.1 ∙ c.renew-2.ensures.here same.0
            ∙ ap (λ xs. bucket_of xs (link_at lists.next.items (s.heads + (bucket - s.first)))) c.deref-2.ensures.value
            ∙ ap (λ i. bucket_of after (link_at lists.next.items (s.heads + i))) (sym same.1)
        | inr other ↦
            let first_step : bucket_of c.renew-2.new.lowest.items slot ≡ bucket_of c.renew.new.lowest.items slot =
            c.renew-2.ensures.others slot other in
            elim (its_or_not s.first from slot) [
              | inl same ↦
                  first_step ∙ ap (bucket_of c.renew.new.lowest.items) same.1 ∙ c.renew.ensures.here same.0
                  ∙ ap (λ xs. bucket_of xs (link_at lists.next.items (s.heads + (from - s.first)))) c.deref.ensures.value
                  ∙ ap (λ i. bucket_of after (link_at lists.next.items (s.heads + i))) (sym same.1)
              | inr apart ↦
                  let differs : s.heads + slot ≢ far_or_near s.heads s.first bucket = head_differs s.heads s.first bucket slot lt other in
                  let not_left : is_near s.first (bucket_of buckets p) ≡ true → slot ≢ bucket_of buckets p - s.first = subst (λ b. is_near s.first b ≡ true → slot ≢ b - s.first) read apart in
                  let elsewhere : s.heads + slot ≢ home s.lists.moves p =
                  λ e. home_differs s.heads s.first buckets p slot (omega (arith, c.requires.place, s.after)) lt not_left (e ∙ s.kept p c.requires.place) in
                  told_still s.lists.linked s.heads slot (omega (arith, s.places, s.after)) (omega (arith, s.within)) buckets p bucket (link_at lists.next.items) elsewhere
                  (c.put.ensures.kept (s.heads + slot) (omega (arith, s.places, s.after)) (λ e. differs (e ∙ c.head_of.ensures)) elsewhere)
                  (bucket_of c.renew-2.new.lowest.items slot) (first_step ∙ c.renew.ensures.others slot apart ∙ s.told slot lt)
            ]
      ];
      bounded = bounded_after s.heads s.first buckets p bucket (home s.lists.moves) (home lists.moves) s.far.bucket c.with-self.result.bucket c.requires.place s.bounded c.with-self.ensures.lower
          (λ h. c.with-self.ensures.holds (far_from_head s.heads s.first bucket (sym put_at ∙ h))) c.put.ensures.others;
    }
