use Rattle.std.proofs.Common.{◌≡◌, ◌+◌, ◌<◌, ◌≤◌, ℕ, length, sym, subst, ◌∙◌, arith}
use Rattle.pg_agenda.specs.Moves.{home}
use Rattle.pg_agenda.specs.PlaceLists.{link_at}
use Rattle.pg_agenda.specs.BucketPhases.{bucket_of}
use Rattle.pg_agenda.specs.BucketQueues.{head_of}
use Rattle.pg_agenda.proofs.bucket_queues.BucketQueue.show.Goals as goal

pub invariant_of-self : goal.invariant_of-self
invariant_of-self c =
    let s = c.args.self.now in
    let m = c.move_lists-self.ensures in
    let r = c.renew_all.ensures in
    record {
      places = omega (arith, m.count, s.places);
      after = s.spare_after;
      within = omega (arith, s.spare_within, m.nodes);
      spare_after = s.after;
      spare_within = omega (arith, s.within, m.nodes);
      apart = λ one other a b e. s.apart other one b a (sym e);
      window = r.length ∙ s.window;
      kept = subst (λ xs. (place : ℕ) → place < length xs → home c.move_lists-self.new.lists.moves place ≡ head_of s.spare c.args.bucket xs place) c.deref.ensures.value m.moved;
      told = subst (λ xs. (slot : ℕ) → slot < 1024 → bucket_of c.renew_all.new.lowest.items slot ≡ bucket_of xs (link_at c.move_lists-self.new.lists.next.items (s.spare + slot))) c.deref-then-not-is_near.ensures.value r.each;
      bounded = subst (λ xs. (place : ℕ) → place < length xs → home c.move_lists-self.new.lists.moves place ≡ s.spare + 1024 → c.move_lists-self.result.bucket ≤ bucket_of xs place) c.deref.ensures.value m.bound;
    }
