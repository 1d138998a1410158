use Rattle.std.proofs.Common.{◌≡◌, ◌+◌, ℕ, length, replicate, sym, ap, ◌∙◌, arith}
use Rattle.std.proofs.lemmas.List.{length-replicate}
use Rattle.pg_agenda.specs.Shares.{NONE}
use Rattle.pg_agenda.specs.PlaceLists.{link_at}
use Rattle.pg_agenda.specs.BucketPhases.{bucket_of}
use Rattle.pg_agenda.proofs.Queues.{head_none}
use Rattle.pg_agenda.proofs.Requeued.{none_everywhere}
use Rattle.pg_agenda.proofs.bucket_queues.BucketQueue.new.Goals as goal

pub invariant_of-result : goal.invariant_of-result
invariant_of-result c =
    let made = c.in_ok-new.field-0 in
    let buckets = c.in_ok-vec.field-0.items in
    let lowest = c.in_ok-vec-2.field-0.items in
    let all_none : buckets ≡ replicate c.args.count NONE = c.in_ok-vec.ensures.items_if_clones_equal (λ y e. e) in
    let none_told : lowest ≡ replicate 1024 NONE = c.in_ok-vec-2.ensures.items_if_clones_equal (λ y e. e) in
    let long : length buckets ≡ c.args.count = ap length all_none ∙ length-replicate c.args.count NONE in
    let none : (x : ℕ) → bucket_of buckets x ≡ NONE = λ x. ap (λ xs. bucket_of xs x) all_none ∙ none_everywhere c.args.count x in
    let count : made.count ≡ c.args.count = c.in_ok-new.ensures.count in
    let nodes : length made.next.items ≡ c.args.count + 2050 = c.in_ok-new.ensures.nodes in
    record {
      places = count ∙ sym long;
      after = omega (arith, long);
      within = omega (arith, nodes);
      spare_after = omega (arith, long);
      spare_within = omega (arith, nodes);
      apart = λ one other a b e. omega arith;
      window = ap length none_told ∙ length-replicate 1024 NONE;
      kept = λ place lt. c.in_ok-new.ensures.alone place ∙ sym (head_none c.args.count 0 buckets place (omega (arith, none place)));
      told = λ slot lt. ap (λ xs. bucket_of xs slot) none_told ∙ none_everywhere 1024 slot ∙ sym (none (link_at made.next.items (c.args.count + slot)));
      bounded = λ place lt h. absurd (omega (arith, h, c.in_ok-new.ensures.alone place, lt, long));
    }
