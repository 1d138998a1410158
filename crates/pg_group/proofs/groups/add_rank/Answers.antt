use Rattle.std.proofs.Common.{◌≡◌, [], ◌∷◌, ◌++◌, false, length, map, refl, sym, ap, ◌∙◌, arith}
use Rattle.std.proofs.lemmas.Option.{slice_get_read}
use Rattle.pg_group.specs.Entries.{Each}
use Rattle.pg_group.specs.Ranked.{wired}
use Rattle.pg_group.proofs.Growing.{starts, size_at, grows, ends, each_push, each_pushed, each_set, each_none, map_pushed}
use Rattle.pg_group.proofs.groups.add_rank.Goals as goal

pub loop-rank-init : goal.loop-rank-init
loop-rank-init g c =
    record {
      group = starts (λ p. wired p.rank.0 p.ranks (map (λ t. g.K.Out.OutEnd.lane t.end) p.outs.items) (map (λ t. g.K.In.InEnd.lane t.end) p.ins.items) (map (λ t. g.K.Out.OutEnd.capacity t.end) p.outs.items)) c.args.own.0 c.args.group.now.items _ _ c.requires.next (ap (map (λ t. g.K.Out.OutEnd.lane t.end)) c.new-outs.ensures.items) (ap (map (λ t. g.K.In.InEnd.lane t.end)) c.new-ins.ensures.items) c.requires.whole;
      new_outs = c.requires.new_outs;
      new_ins = c.requires.new_ins;
      outs = each_none _ c.new-outs.result.items c.new-outs.ensures.items;
      ins = each_none _ c.new-ins.result.items c.new-ins.ensures.items;
    }

pub connect_both-requires-clause-open : goal.connect_both-requires-clause-open
connect_both-requires-clause-open g c =
    let h = size_at (λ p. wired p.rank.0 p.ranks (map (λ t. g.K.Out.OutEnd.lane t.end) p.outs.items) (map (λ t. g.K.In.InEnd.lane t.end) p.ins.items) (map (λ t. g.K.Out.OutEnd.capacity t.end) p.outs.items)) c.args.own.0 c.loop-rank.rank c.loop-rank.group.items _ _ c.index_mut.result.now c.loop-rank.invariant.group c.loop-rank-test.true c.index_mut.ensures.value in
    omega (arith, h, c.loop-rank-test.true)

pub connect_both-requires-clause-few : goal.connect_both-requires-clause-few
connect_both-requires-clause-few g c =
    let h = size_at (λ p. wired p.rank.0 p.ranks (map (λ t. g.K.Out.OutEnd.lane t.end) p.outs.items) (map (λ t. g.K.In.InEnd.lane t.end) p.ins.items) (map (λ t. g.K.Out.OutEnd.capacity t.end) p.outs.items)) c.args.own.0 c.loop-rank.rank c.loop-rank.group.items _ _ c.index_mut.result.now c.loop-rank.invariant.group c.loop-rank-test.true c.index_mut.ensures.value in
    omega (arith, h, c.requires.few)

pub loop-rank-preserved : goal.loop-rank-preserved
loop-rank-preserved g c =
    let p = c.index_mut.result.now in
    let q = c.connect_both.new.port in
    let said = c.in_ok-connect_both.ensures in
    let inv = c.loop-rank.invariant in
    let ps = c.loop-rank.group.items in
    let i = c.loop-rank.rank in
    let long = inv.group.long in
    let at = slice_get_read ps (length ps) i p refl (omega (arith, long, c.loop-rank-test.true)) c.index_mut.ensures.value in
    let there = said.there in
    let back = said.back in
    record {
      group = grows (λ p. wired p.rank.0 p.ranks (map (λ t. g.K.Out.OutEnd.lane t.end) p.outs.items) (map (λ t. g.K.In.InEnd.lane t.end) p.ins.items) (map (λ t. g.K.Out.OutEnd.capacity t.end) p.outs.items)) c.args.own.0 i ps _ _ _ _ p q (g.K.Out.OutEnd.lane back.0.end) (g.K.In.InEnd.lane there.1.end)
          inv.group c.loop-rank-test.true c.index_mut.ensures.value (ap (λ r. r.0) said.rank) said.ranks
          (map_pushed (λ t. g.K.Out.OutEnd.lane t.end) p.outs.items q.outs.items back.0 back.2)
          (map_pushed (λ t. g.K.In.InEnd.lane t.end) p.ins.items q.ins.items there.1 there.3)
          (map_pushed (λ t. g.K.Out.OutEnd.lane t.end) c.loop-rank.outs.items c.connect_both.new.outs.items there.0 there.2 ∙ ap (λ x. map (λ t. g.K.Out.OutEnd.lane t.end) c.loop-rank.outs.items ++ x ∷ []) there.4.0)
          (map_pushed (λ t. g.K.In.InEnd.lane t.end) c.loop-rank.ins.items c.connect_both.new.ins.items back.1 back.3 ∙ ap (λ x. map (λ t. g.K.In.InEnd.lane t.end) c.loop-rank.ins.items ++ x ∷ []) (sym back.4.0));
      new_outs = each_set (λ x. Each (λ place t. (g.K.Out.OutEnd.sent t.end ≡ []) × (t.marked ≡ false) × (g.K.Out.OutEnd.capacity t.end ≡ c.args.capacity)) x.outs.items) ps i q inv.new_outs
          (each_push (λ place t. (g.K.Out.OutEnd.sent t.end ≡ []) × (t.marked ≡ false) × (g.K.Out.OutEnd.capacity t.end ≡ c.args.capacity)) p.outs.items q.outs.items back.0 back.2 (inv.new_outs i p at) (back.4.2, back.4.3, back.4.1));
      new_ins = each_set (λ x. Each (λ place t. (g.K.In.InEnd.taken t.end ≡ []) × (t.closed ≡ false)) x.ins.items) ps i q inv.new_ins
          (each_push (λ place t. (g.K.In.InEnd.taken t.end ≡ []) × (t.closed ≡ false)) p.ins.items q.ins.items there.1 there.3 (inv.new_ins i p at) (there.4.4, there.4.5));
      outs = each_push (λ place t. (g.K.Out.OutEnd.sent t.end ≡ []) × (t.marked ≡ false) × (g.K.Out.OutEnd.capacity t.end ≡ c.args.capacity)) c.loop-rank.outs.items c.connect_both.new.outs.items there.0 there.2 inv.outs (there.4.2, there.4.3, there.4.1);
      ins = each_push (λ place t. (g.K.In.InEnd.taken t.end ≡ []) × (t.closed ≡ false)) c.loop-rank.ins.items c.connect_both.new.ins.items back.1 back.3 inv.ins (back.4.4, back.4.5);
    }

pub returns-clause-whole : goal.returns-clause-whole
returns-clause-whole g c =
    ends (λ p. wired p.rank.0 p.ranks (map (λ t. g.K.Out.OutEnd.lane t.end) p.outs.items) (map (λ t. g.K.In.InEnd.lane t.end) p.ins.items) (map (λ t. g.K.Out.OutEnd.capacity t.end) p.outs.items)) c.args.own.0 c.loop-rank.rank c.loop-rank.group.items _ c.push_reserved.new.self.items _ _ _ c.push_reserved.ensures.items c.reserve.ensures.items
    c.loop-rank.invariant.group (omega (arith, c.loop-rank-test.false, c.loop-rank.auto.rank-end)) refl refl refl refl

pub returns-clause-new_outs : goal.returns-clause-new_outs
returns-clause-new_outs g c =
    each_pushed (λ rank p. Each (λ place t. (g.K.Out.OutEnd.sent t.end ≡ []) × (t.marked ≡ false) × (g.K.Out.OutEnd.capacity t.end ≡ c.args.capacity)) p.outs.items) c.loop-rank.group.items _ c.push_reserved.new.self.items _ c.push_reserved.ensures.items c.reserve.ensures.items
    c.loop-rank.invariant.new_outs c.loop-rank.invariant.outs

pub returns-clause-new_ins : goal.returns-clause-new_ins
returns-clause-new_ins g c =
    each_pushed (λ rank p. Each (λ place t. (g.K.In.InEnd.taken t.end ≡ []) × (t.closed ≡ false)) p.ins.items) c.loop-rank.group.items _ c.push_reserved.new.self.items _ c.push_reserved.ensures.items c.reserve.ensures.items
    c.loop-rank.invariant.new_ins c.loop-rank.invariant.ins
