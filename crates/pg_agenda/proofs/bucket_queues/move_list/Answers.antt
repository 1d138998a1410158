use Rattle.std.proofs.Common.{◌≡◌, ◌≢◌, ◌<◌, ◌≤◌, ℕ, length, get_or, inl, inr, sym, ap, ◌∙◌, arith}
use Rattle.std.proofs.lemmas.Bool.{cases_eq}
use Rattle.std.proofs.lemmas.List.{get_or_default}
use Rattle.pg_agenda.specs.Shares.{NONE}
use Rattle.pg_agenda.specs.Moves.{home, stamp}
use Rattle.pg_agenda.specs.PlaceLists.{link_at}
use Rattle.pg_agenda.specs.BucketPhases.{bucket_of}
use Rattle.pg_agenda.specs.BucketQueues.{is_near, far_or_near}
use Rattle.pg_agenda.proofs.Linked.{first_home}
use Rattle.pg_agenda.proofs.Queues.{head_between, head_pending, far_from_head}
use Rattle.pg_agenda.proofs.bucket_queues.move_list.Goals as goal

pub loop-place-smaller : goal.loop-place-smaller
loop-place-smaller c =
    let taken = c.take_first.new.self in
    let put = c.put.new.self in
    let p = c.in-Some.place in
    let from = c.args.from in
    let (o, o_in, o_is) = head_between c.args.heads c.args.first _ in
    let apart : from ≢ c.head_of.result = λ e. c.requires.apart o o_in (e ∙ c.head_of.ensures ∙ o_is) in
    let alone : home taken.moves p ≡ p = c.in-Some.ensures.alone in
    let in_places : p < c.loop-place.lists.count = c.in-Some.ensures.within in
    let le : taken.count ≤ from = omega (arith, c.in-Some.ensures.count, c.loop-place.invariant.count, c.requires.from) in
    let lt : from < length taken.next.items = omega (arith, c.in-Some.ensures.nodes, c.loop-place.invariant.nodes, c.requires.from_in) in
    let kept : link_at put.next.items from ≡ link_at taken.next.items from =
    c.put.ensures.kept from le apart (λ e. omega (arith, e, alone, in_places, c.in-Some.ensures.count, le)) in
    let its : home taken.moves (link_at taken.next.items from) ≡ from = first_home taken.linked from le lt in
    let ne : link_at taken.next.items from ≢ p = λ e. omega (arith, ap (home taken.moves) e, its, alone, in_places, c.in-Some.ensures.count, le) in
    omega (arith, ap (stamp put.moves) kept, c.put.ensures.older (link_at taken.next.items from) ne, c.in-Some.ensures.fewer)

pub loop-place-preserved : goal.loop-place-preserved
loop-place-preserved c =
    let i = c.loop-place.invariant in
    let before = c.loop-place.lists in
    let put = c.put.new.self in
    let p = c.in-Some.place in
    let buckets = c.args.buckets.now in
    let same : (x : ℕ) → x ≢ p → home put.moves x ≡ home before.moves x = λ x ne. c.put.ensures.others x ne ∙ c.in-Some.ensures.others x ne in
    let in_buckets : p < length buckets = omega (arith, c.in-Some.ensures.within, i.count, c.requires.places) in
    let read : get_or buckets p 0 ≡ bucket_of buckets p = get_or_default buckets p 0 NONE in_buckets in
    let put_at : home put.moves p ≡ far_or_near c.args.heads c.args.first (bucket_of buckets p) =
    c.put.ensures.here ∙ c.head_of.ensures ∙ ap (far_or_near c.args.heads c.args.first) read in
    record {
      nodes = omega (arith, c.put.ensures.nodes, c.in-Some.ensures.nodes, i.nodes);
      count = omega (arith, c.put.ensures.count, c.in-Some.ensures.count, i.count);
      stay = λ place lt ne.
          let apart : place ≢ p = λ e. ne (sym (i.stay place lt ne) ∙ ap (home before.moves) e ∙ c.in-Some.ensures.some) in
          same place apart ∙ i.stay place lt ne;
      moved = λ place lt was. elim (cases_eq place p) [
        | inl e ↦ inr (ap (home put.moves) e ∙ put_at ∙ ap (λ x. far_or_near c.args.heads c.args.first (bucket_of buckets x)) (sym e) ∙ sym (head_pending c.args.heads c.args.first buckets place (c.requires.pending place lt was)))
        | inr ne ↦ elim (i.moved place lt was) [
          | inl h ↦ inl (same place ne ∙ h)
          | inr h ↦ inr (same place ne ∙ h)
        ]
      ];
      bound = λ place lt h. elim (cases_eq place p) [
        | inl e ↦
            let far = far_from_head c.args.heads c.args.first (bucket_of buckets p) (sym put_at ∙ ap (home put.moves) (sym e) ∙ h) in
            omega (arith, c.with-bound.ensures.holds (ap (is_near c.args.first) read ∙ far), read, ap (bucket_of buckets) e)
        | inr ne ↦ omega (arith, c.with-bound.ensures.lower, i.bound place lt (sym (same place ne) ∙ h))
      ];
    }
