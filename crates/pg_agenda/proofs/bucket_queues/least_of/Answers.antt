use Rattle.std.proofs.Common.{◌≡◌, ◌<◌, ℕ, min, length, get_or, refl, ap, ◌∙◌, arith}
use Rattle.std.proofs.lemmas.List.{get_or_default}
use Rattle.pg_agenda.specs.Shares.{NONE}
use Rattle.pg_agenda.specs.Moves.{home}
use Rattle.pg_agenda.specs.PlaceLists.{link_at}
use Rattle.pg_agenda.specs.BucketPhases.{bucket_of}
use Rattle.pg_agenda.proofs.BucketSteps.{past_end}
use Rattle.pg_agenda.proofs.Linked.{first_home, place_of}
use Rattle.pg_agenda.proofs.Queues.{min_either}
use Rattle.pg_agenda.proofs.Walks.{walk_begun, walk_more, walk_done}
use Rattle.pg_agenda.proofs.bucket_queues.least_of.Goals as goal

pub loop-node-init : goal.loop-node-init
loop-node-init c =
    let lists = c.args.lists.now in
    let list = c.args.list in
    record {
      within = omega (arith, c.after-node.ensures, lists.linked.after list c.requires.list);
      its = ap (home lists.moves) c.after-node.ensures ∙ first_home lists.linked list c.requires.head c.requires.list;
      stands = (length c.args.buckets.now, past_end c.args.buckets.now (length c.args.buckets.now) (omega arith));
      walked = walk_begun (link_at lists.next.items) c.args.buckets.now list c.after-node.result NONE c.after-node.ensures;
    }

pub loop-node-preserved : goal.loop-node-preserved
loop-node-preserved c =
    let lists = c.args.lists.now in
    let list = c.args.list in
    let buckets = c.args.buckets.now in
    let i = c.loop-node.invariant in
    let node = c.loop-node.node in
    let old = c.loop-node.bound.bucket in
    let after = c.after-node-in-loop-node in
    let in_places : node < lists.count = place_of lists.linked node list i.its c.loop-node-test.true in
    let read : get_or buckets node 0 ≡ bucket_of buckets node = get_or_default buckets node 0 NONE (omega (arith, in_places, c.requires.places)) in
    let lower : c.lowered-bound.result.bucket ≡ min old (bucket_of buckets node) = c.lowered-bound.ensures ∙ ap (min old) read in
    record {
      within = omega (arith, after.ensures, lists.linked.after node i.within);
      its = ap (home lists.moves) after.ensures ∙ lists.linked.same node i.within ∙ i.its;
      stands = rw lower (min_either (λ b. (x : ℕ) × (bucket_of buckets x ≡ b)) old (bucket_of buckets node) i.stands (node, refl));
      walked = walk_more (link_at lists.next.items) buckets list node old after.result c.lowered-bound.result.bucket i.walked after.ensures lower;
    }

pub returns-clause-lowest : goal.returns-clause-lowest
returns-clause-lowest c place lt its =
    let lists = c.args.lists.now in
    let i = c.loop-node.invariant in
    walk_done lists.linked lists.within c.args.buckets.now c.args.list c.loop-node.node c.loop-node.bound.bucket c.requires.head i.walked c.loop-node-test.false place (omega (arith, lt, c.requires.places)) its
