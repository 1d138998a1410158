use Rattle.std.proofs.Common.{◌≡◌, ◌+◌, ◌-◌, ◌*◌, [], length, map, refl, sym, ap, ◌∙◌, arith}
use Rattle.std.specs.Prelude.{slice_get}
use Rattle.std.proofs.lemmas.List.{length-reverse}
use Rattle.pg_group.specs.Envelopes.{bodies}
use Rattle.pg_group.specs.Ranked.{place_of, wired}
use Rattle.pg_group.proofs.LanePlaces.{joins}
use Rattle.pg_group.proofs.Ending.{ends_of_group, begins, port_out_left, port_in_left, ends_fit, as_many, turn, all_ended}
use Rattle.pg_group.proofs.ByRank.{said_of}
use Rattle.pg_group.proofs.Growing.{entry_map}
use Rattle.pg_group.proofs.Popped.{stands_at}
use Rattle.pg_group.proofs.Shown.{shows}
use Rattle.pg_group.proofs.closing.close_ports.Goals as goal

pub loop-lane-init : goal.loop-lane-init
loop-lane-init g c =
    let n = length c.args.ports.items in
    let w = c.saturating_sub-others.result in
    let size : w ≡ n - 1 = omega (arith, c.saturating_sub-others.ensures, c.len.ensures, c.args.ports.ok.0) in
    let count : c.len-2.result ≡ n = omega (arith, c.len-2.ensures, c.args.ports.ok.0) in
    record {
      ending = begins _ _ n w (map (λ p. p.outs.items) c.args.ports.items) (map (λ p. p.ins.items) c.args.ports.items) c.args.lanes.now.items (c.len-2.result * w)
          (ends_of_group (λ p. wired p.rank.0 p.ranks (map (λ t. g.K.Out.OutEnd.lane t.end) p.outs.items) (map (λ t. g.K.In.InEnd.lane t.end) p.ins.items) (map (λ t. g.K.Out.OutEnd.capacity t.end) p.outs.items))
          (λ p. p.outs.items) (λ p. p.ins.items) (λ t. g.K.Out.OutEnd.lane t.end) (λ t. g.K.In.InEnd.lane t.end) c.args.ports.items n w refl size c.requires.whole (λ p. refl) (λ p. refl))
          c.requires.empty (ap (λ x. x * w) count);
      ports = refl;
      room = refl;
    }

pub last_out-out-requires-clause-some : goal.last_out-out-requires-clause-some
last_out-out-requires-clause-some g c κs within =
    let inv = c.loop-lane.invariant in
    let pair = joins (length c.args.ports.items) c.saturating_sub-others.result c.len-2.result c.loop-lane.lane c.rank_at-receiver.result inv.ending.all.size
    (omega (arith, c.len-2.ensures, c.args.ports.ok.0)) c.loop-lane.auto.lane c.loop-lane-test.true c.rank_at-receiver.ensures.other c.rank_at-receiver.ensures.stands in
    port_out_left (λ p. p.outs.items) (λ p. p.ins.items) c.args.ports.items c.loop-lane.ports.items inv.ending c.loop-lane-test.true pair inv.ports
    c.index_mut.result.now c.index_mut.ensures.value

pub last_in-inn-requires-clause-some : goal.last_in-inn-requires-clause-some
last_in-inn-requires-clause-some g c κs within =
    let inv = c.loop-lane.invariant in
    let pair = joins (length c.args.ports.items) c.saturating_sub-others.result c.len-2.result c.loop-lane.lane c.rank_at-receiver.result inv.ending.all.size
    (omega (arith, c.len-2.ensures, c.args.ports.ok.0)) c.loop-lane.auto.lane c.loop-lane-test.true c.rank_at-receiver.ensures.other c.rank_at-receiver.ensures.stands in
    port_in_left (λ p. p.outs.items) (λ p. p.ins.items) c.args.ports.items c.loop-lane.ports.items inv.ending c.loop-lane-test.true pair inv.ports
    c.index_mut.result.now c.last_out-out.new.port c.index_mut.ensures.value c.last_out-out.ensures.ins
    c.index_mut-in-loop-lane.result.now c.index_mut-in-loop-lane.ensures.value

pub settle-requires : goal.settle-requires
settle-requires g c =
    let inv = c.loop-lane.invariant in
    let pair = joins (length c.args.ports.items) c.saturating_sub-others.result c.len-2.result c.loop-lane.lane c.rank_at-receiver.result inv.ending.all.size
    (omega (arith, c.len-2.ensures, c.args.ports.ok.0)) c.loop-lane.auto.lane c.loop-lane-test.true c.rank_at-receiver.ensures.other c.rank_at-receiver.ensures.stands in
    ends_fit (λ p. p.outs.items) (λ p. p.ins.items) c.args.ports.items c.loop-lane.ports.items inv.ending c.loop-lane-test.true pair inv.ports
    c.index_mut.result.now c.last_out-out.new.port c.index_mut.ensures.value c.last_out-out.ensures.ins
    c.index_mut-in-loop-lane.result.now c.last_in-inn.new.port c.index_mut-in-loop-lane.ensures.value
    c.last_out-out.result c.last_in-inn.result c.last_out-out.ensures.outs c.last_in-inn.ensures.ins

pub push_reserved-requires : goal.push_reserved-requires
push_reserved-requires g c =
    let inv = c.loop-lane.invariant in
    let size = ap (λ x. length c.args.ports.items * x) inv.ending.all.size in
    omega (arith, inv.ending.count, inv.room, size, c.requires.room, c.loop-lane-test.true, c.loop-lane.lanes.ok.0)

pub loop-lane-preserved : goal.loop-lane-preserved
loop-lane-preserved g c =
    let inv = c.loop-lane.invariant in
    let pair = joins (length c.args.ports.items) c.saturating_sub-others.result c.len-2.result c.loop-lane.lane c.rank_at-receiver.result inv.ending.all.size
    (omega (arith, c.len-2.ensures, c.args.ports.ok.0)) c.loop-lane.auto.lane c.loop-lane-test.true c.rank_at-receiver.ensures.other c.rank_at-receiver.ensures.stands in
    record {
      ending = turn (λ p. p.outs.items) (λ p. p.ins.items) c.args.ports.items c.loop-lane.ports.items inv.ending c.loop-lane-test.true pair inv.ports
          c.index_mut.result.now c.last_out-out.new.port c.index_mut.ensures.value c.last_out-out.ensures.ins
          c.index_mut-in-loop-lane.result.now c.last_in-inn.new.port c.index_mut-in-loop-lane.ensures.value
          c.last_out-out.result c.last_in-inn.result c.last_out-out.ensures.outs c.last_in-inn.ensures.ins
          c.settle.result c.push_reserved.new.self.items c.push_reserved.ensures.items c.last_in-inn.ensures.outs (c.settle.ensures.sent, c.settle.ensures.taken, c.settle.ensures.capacity);
      ports = as_many c.loop-lane.ports.items _ _ c.last_out-out.new.port c.last_in-inn.new.port _ inv.ports;
      room = omega (arith, c.push_reserved.ensures.capacity, inv.room);
    }

pub returns-clause-count : goal.returns-clause-count
returns-clause-count g c =
    let inv = c.loop-lane.invariant in
    let size = ap (λ x. length c.args.ports.items * x) inv.ending.all.size in
    omega (arith, inv.ending.count, size, c.loop-lane-test.false, ap length c.reverse.ensures.items, length-reverse c.loop-lane.lanes.items)

pub returns-clause-each : goal.returns-clause-each
returns-clause-each g c =
    let n = length c.args.ports.items in
    let inv = c.loop-lane.invariant in
    let over : c.loop-lane.lane ≡ 0 = omega (arith, c.loop-lane-test.false) in
    λ r p at_r s q at_s apart.
    let e = all_ended (λ p. p.outs.items) (λ p. p.ins.items) c.args.ports.items c.loop-lane.ports.items c.reverse.new.self.items
    inv.ending over refl c.reverse.ensures.items r s p q at_r at_s apart in
    let own_p = (stands_at c.args.ports.items _ n r p c.requires.whole refl at_r).0 in
    let own_q = (stands_at c.args.ports.items _ n s q c.requires.whole refl at_s).0 in (
      e.lane,
      ap (λ x. slice_get c.reverse.new.self.items (r * x + place_of r s)) (sym inv.ending.all.size) ∙ e.lane_at,
      shows e.lane (g.K.Out.OutEnd.sent e.out.end) (g.K.In.InEnd.taken e.inn.end) _ _ (g.K.Out.OutEnd.capacity e.out.end) _ e.settles.0 e.settles.1 e.settles.2 e.out.numbered
          (said_of p.outs.items p.rank.0 r s n e.out own_p e.sender e.receiver apart e.all_out e.out_at (λ t. bodies (g.K.Out.OutEnd.sent t.end)) [])
          (said_of q.ins.items q.rank.0 s r n e.inn own_q e.receiver e.sender (λ f. apart (sym f)) e.all_in e.in_at (λ t. bodies (g.K.In.InEnd.taken t.end)) [])
          (entry_map (λ t. g.K.Out.OutEnd.capacity t.end) p.outs.items (place_of r s) e.out e.out_at),
    )
