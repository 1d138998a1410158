use Rattle.std.proofs.Common.{refl, sym, ap, ◌∙◌, subst, arith, length}
use Rattle.pg_group.specs.Envelopes.{bodies}
use Rattle.pg_group.specs.Ranked.{wired}
use Rattle.pg_group.proofs.ByRank.{cleared, map_same, kept_along, cleared_along, all_cleared, length_of_map}
use Rattle.pg_lane.proofs.Order.{out_same, out_on, in_same, in_on}
use Rattle.pg_lane.specs.EndLater.{OutLater, InLater}
use Rattle.pg_group.specs.LaterLanes.{AllLater, all-same, all-on}
use Rattle.pg_group.proofs.Later.{all-set}
use Rattle.pg_group.proofs.sockets.PortMailbox.next_round.Goals as goal

pub loop-i-preserved : goal.loop-i-preserved
loop-i-preserved g c =
    let ps = c.loop-i.self.outs.items in
    let p = c.index_mut.result.now in
    let inv = c.loop-i.invariant in
    record {
      own = inv.own;
      size = inv.size;
      ins = inv.ins;
      sent = kept_along (λ t. bodies (g.K.Out.OutEnd.sent t.end)) ps c.loop-i.i p _ _ c.index_mut.ensures.value refl inv.sent;
      lanes = kept_along (λ t. g.K.Out.OutEnd.lane t.end) ps c.loop-i.i p _ _ c.index_mut.ensures.value refl inv.lanes;
      capacities = kept_along (λ t. g.K.Out.OutEnd.capacity t.end) ps c.loop-i.i p _ _ c.index_mut.ensures.value refl inv.capacities;
      later = all-on _ (λ a b d. out_on _ a.end b.end d.end) _ ps _ inv.later (all-set _ (λ a. out_same _ a.end) ps c.loop-i.i p _ c.index_mut.ensures.value (out_same _ p.end));
      marks = cleared_along (λ t. t.marked) ps c.loop-i.i _ _ refl inv.marks;
    }

pub loop-i-2-preserved : goal.loop-i-2-preserved
loop-i-2-preserved g c =
    let ps = c.loop-i-2.self.ins.items in
    let p = c.index_mut-in-loop-i-2.result.now in
    let inv = c.loop-i-2.invariant in
    record {
      own = inv.own;
      size = inv.size;
      outs = inv.outs;
      taken = kept_along (λ t. bodies (g.K.In.InEnd.taken t.end)) ps c.loop-i-2.i p _ _ c.index_mut-in-loop-i-2.ensures.value refl inv.taken;
      lanes = kept_along (λ t. g.K.In.InEnd.lane t.end) ps c.loop-i-2.i p _ _ c.index_mut-in-loop-i-2.ensures.value refl inv.lanes;
      later = all-on _ (λ a b d. in_on _ a.end b.end d.end) _ ps _ inv.later (all-set _ (λ a. in_same _ a.end) ps c.loop-i-2.i p _ c.index_mut-in-loop-i-2.ensures.value (in_same _ p.end));
      marks = cleared_along (λ t. t.closed) ps c.loop-i-2.i _ _ refl inv.marks;
    }

pub returns-clause-marks_sent : goal.returns-clause-marks_sent
returns-clause-marks_sent g c =
    let a = c.loop-i.invariant in
    let b = c.loop-i-2.invariant in
    all_cleared _ _ c.loop-i.i _ _ (ap (λ r. r.0) (b.own ∙ a.own)) (map_same b.outs (λ t. t.marked) ∙ a.marks)
    (omega (arith, length_of_map (λ t. t.marked) c.args.self.now.outs.items, length_of_map (λ t. t.marked) c.loop-i.self.outs.items, ap length a.marks))

pub returns-clause-marks_taken : goal.returns-clause-marks_taken
returns-clause-marks_taken g c =
    let a = c.loop-i.invariant in
    let b = c.loop-i-2.invariant in
    let same = map_same a.ins (λ t. t.closed) in
    all_cleared _ _ c.loop-i-2.i _ _ (ap (λ r. r.0) (b.own ∙ a.own)) (b.marks ∙ ap (cleared c.loop-i-2.i) same)
    (omega (arith, length_of_map (λ t. t.closed) c.loop-i.self.ins.items, ap length same))

pub returns-clause-same_wiring : goal.returns-clause-same_wiring
returns-clause-same_wiring g c =
    let a = c.loop-i.invariant in
    let b = c.loop-i-2.invariant in
    let lanes_out = map_same b.outs (λ t. g.K.Out.OutEnd.lane t.end) ∙ a.lanes in
    let lanes_in = b.lanes ∙ map_same a.ins (λ t. g.K.In.InEnd.lane t.end) in
    let capacities = map_same b.outs (λ t. g.K.Out.OutEnd.capacity t.end) ∙ a.capacities in
    let own = b.own ∙ a.own in
    let size = b.size ∙ a.size in
    λ i. wired (own i).0 (size i) (lanes_out i) (lanes_in i) (capacities i)

pub returns-clause-later : goal.returns-clause-later
returns-clause-later g c =
    let a = c.loop-i.invariant in
    let b = c.loop-i-2.invariant in (
      subst (λ l. AllLater (λ x y. OutLater g.K.Out.OutEnd x.end y.end) c.args.self.now.outs.items l) (sym b.outs) a.later,
      subst (λ l. AllLater (λ x y. InLater g.K.In.InEnd x.end y.end) l c.loop-i-2.self.ins.items) a.ins b.later,
    )
