use Rattle.std.proofs.Common.{◌≡◌, ◌∙◌, ℕ, List, get_or, length, ap, refl, arith}
use Rattle.std.specs.Vec.{with_items}
use Rattle.std.proofs.lemmas.List.{with_items_is}
use Rattle.pg_adj.specs.declared.ghosts.GhostList.{GhostList}
use Rattle.pg_adj.specs.Division.{ghost_of}
use Rattle.pg_adj.specs.RankSets.{no_ranks, held_up_to}
use Rattle.pg_adj.proofs.GhostLists.{lists_more, room_for_next, rooms_more}
use Rattle.pg_adj.proofs.ghosts.ghosts_by_rank.Goals as goal

pub loop-k-init : goal.loop-k-init
loop-k-init g c =
    let ranks : c.count.result ≡ (g.D.Distribution.sharing c.args.dist.now).ranks = omega (arith, c.count.ensures.value, c.ranks.ensures) in
    let size : length c.deref.result.now ≡ (g.D.Distribution.sharing c.args.dist.now).ranks = omega (arith, ap length c.deref.ensures.value, c.in_ok-ghost_counts.ensures.each, ranks) in
    record {
      count = c.in_ok-lists.ensures.each ∙ size;
      list = λ r d l. c.in_ok-lists.ensures.list r d (omega (arith, size));
      room = λ r d l. c.in_ok-lists.ensures.room r d (omega (arith, size)) ∙ (ap (λ (xs : List ℕ). get_or xs r 0) c.deref.ensures.value
          ∙ c.in_ok-ghost_counts.ensures.held r (omega (arith, ranks)));
    }

pub push_ghost-requires-clause-room : goal.push_ghost-requires-clause-room
push_ghost-requires-clause-room g c =
    room_for_next (ghost_of (g.D.Distribution.sharing c.args.dist.now).owner (g.D.Distribution.sharing c.args.dist.now).local) c.args.sets.now c.loop-k.k (g.D.Distribution.sharing c.args.dist.now).ranks
    c.loop-k.lists.items c.deref_mut.result.now (omega arith) c.deref_mut.ensures.value c.loop-k.invariant.count c.loop-k.invariant.list c.loop-k.invariant.room

pub loop-k-preserved : goal.loop-k-preserved
loop-k-preserved g c =
    let was : List GhostList = c.loop-k.lists.items in
    let done : List GhostList = c.push_ghost.new.lists in
    let size : length done ≡ length was = c.push_ghost.ensures.each ∙ ap length c.deref_mut.ensures.value in
    let put : (with_items c.loop-k.lists done).items ≡ done = with_items_is c.loop-k.lists done (omega (arith, size, c.loop-k.lists.ok.0)) in
    record {
      count = ap length put ∙ (size ∙ c.loop-k.invariant.count);
      list = lists_more (ghost_of (g.D.Distribution.sharing c.args.dist.now).owner (g.D.Distribution.sharing c.args.dist.now).local) c.args.sets.now c.loop-k.k (get_or c.args.sets.now c.loop-k.k no_ranks)
          c.ghost_at.result (g.D.Distribution.sharing c.args.dist.now).ranks was c.deref_mut.result.now done (with_items c.loop-k.lists done).items (omega arith) refl c.ghost_at.ensures
          c.deref_mut.ensures.value put c.loop-k.invariant.count c.loop-k.invariant.list c.push_ghost.ensures.pushed;
      room = rooms_more was c.deref_mut.result.now done (with_items c.loop-k.lists done).items (g.D.Distribution.sharing c.args.dist.now).ranks
          (λ r. length (held_up_to c.args.sets.now r (length c.args.sets.now))) c.deref_mut.ensures.value put c.loop-k.invariant.count c.loop-k.invariant.room c.push_ghost.ensures.room;
    }
