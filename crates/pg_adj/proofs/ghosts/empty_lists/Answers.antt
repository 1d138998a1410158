use Rattle.std.proofs.Common.{◌≡◌, [], arith, slice_index, vec_capacity}
use Rattle.pg_adj.specs.declared.ghosts.GhostList.{GhostList}
use Rattle.pg_adj.proofs.Sharings.{each_push}
use Rattle.pg_adj.proofs.ghosts.empty_lists.Goals as goal

pub loop-count-preserved : goal.loop-count-preserved
loop-count-preserved c =
    let made : GhostList = record { ghosts = c.in_ok-with_capacity.field-0 } in
    record {
      each = omega (arith, c.in_ok-push.ensures.len);
      list = each_push (λ r x. x.ghosts.items ≡ []) c.loop-count.lists.items c.push.new.self.items made c.loop-count.count-index c.loop-count.invariant.each c.loop-count.invariant.list
          c.in_ok-with_capacity.ensures.items c.in_ok-push.ensures.items;
      room = each_push (λ r x. vec_capacity x.ghosts ≡ slice_index c.args.counts.now r) c.loop-count.lists.items c.push.new.self.items made c.loop-count.count-index c.loop-count.invariant.each
          c.loop-count.invariant.room c.in_ok-with_capacity.ensures.exact c.in_ok-push.ensures.items;
    }
