use Rattle.std.proofs.Common.{◌≡◌, [], false, length, map, ap, arith}
use Rattle.pg_group.specs.Envelopes.{bodies}
use Rattle.pg_group.specs.Ranked.{wired}
use Rattle.pg_group.proofs.ByRank.{length_of_map}
use Rattle.pg_group.proofs.Opening.{by_rank_all, list_all, count_out, count_in}
use Rattle.pg_group.proofs.groups.ports.Goals as goal

pub returns-clause-capacities : goal.returns-clause-capacities
returns-clause-capacities g c =
    let ps = c.loop-rank.group.items in
    let inv = c.loop-rank.invariant in
    let long : length ps ≡ c.args.ranks = omega (arith, inv.long, c.loop-rank-test.false, c.loop-rank.auto.rank-end, c.count-count.ensures.value) in
    λ r p at. list_all (λ t. g.K.Out.OutEnd.capacity t.end) c.args.capacity c.args.ranks p.outs.items (count_out (λ p. wired p.rank.0 p.ranks (map (λ t. g.K.Out.OutEnd.lane t.end) p.outs.items) (map (λ t. g.K.In.InEnd.lane t.end) p.ins.items) (map (λ t. g.K.Out.OutEnd.capacity t.end) p.outs.items)) (λ p. p.outs.items) ps c.args.ranks long inv.whole (λ p. length_of_map (λ t. g.K.Out.OutEnd.lane t.end) p.outs.items) r p at) (λ k t here. (inv.new_outs r p at k t here).2)

pub returns-clause-sent : goal.returns-clause-sent
returns-clause-sent g c =
    let ps = c.loop-rank.group.items in
    let inv = c.loop-rank.invariant in
    let long : length ps ≡ c.args.ranks = omega (arith, inv.long, c.loop-rank-test.false, c.loop-rank.auto.rank-end, c.count-count.ensures.value) in
    λ r p at. by_rank_all (λ t. bodies (g.K.Out.OutEnd.sent t.end)) [] p.rank.0 c.args.ranks p.outs.items (count_out (λ p. wired p.rank.0 p.ranks (map (λ t. g.K.Out.OutEnd.lane t.end) p.outs.items) (map (λ t. g.K.In.InEnd.lane t.end) p.ins.items) (map (λ t. g.K.Out.OutEnd.capacity t.end) p.outs.items)) (λ p. p.outs.items) ps c.args.ranks long inv.whole (λ p. length_of_map (λ t. g.K.Out.OutEnd.lane t.end) p.outs.items) r p at) (λ k t here. ap bodies (inv.new_outs r p at k t here).0)

pub returns-clause-marks_sent : goal.returns-clause-marks_sent
returns-clause-marks_sent g c =
    let ps = c.loop-rank.group.items in
    let inv = c.loop-rank.invariant in
    let long : length ps ≡ c.args.ranks = omega (arith, inv.long, c.loop-rank-test.false, c.loop-rank.auto.rank-end, c.count-count.ensures.value) in
    λ r p at. by_rank_all (λ t. t.marked) false p.rank.0 c.args.ranks p.outs.items (count_out (λ p. wired p.rank.0 p.ranks (map (λ t. g.K.Out.OutEnd.lane t.end) p.outs.items) (map (λ t. g.K.In.InEnd.lane t.end) p.ins.items) (map (λ t. g.K.Out.OutEnd.capacity t.end) p.outs.items)) (λ p. p.outs.items) ps c.args.ranks long inv.whole (λ p. length_of_map (λ t. g.K.Out.OutEnd.lane t.end) p.outs.items) r p at) (λ k t here. (inv.new_outs r p at k t here).1)

pub returns-clause-taken : goal.returns-clause-taken
returns-clause-taken g c =
    let ps = c.loop-rank.group.items in
    let inv = c.loop-rank.invariant in
    let long : length ps ≡ c.args.ranks = omega (arith, inv.long, c.loop-rank-test.false, c.loop-rank.auto.rank-end, c.count-count.ensures.value) in
    λ r p at. by_rank_all (λ t. bodies (g.K.In.InEnd.taken t.end)) [] p.rank.0 c.args.ranks p.ins.items (count_in (λ p. wired p.rank.0 p.ranks (map (λ t. g.K.Out.OutEnd.lane t.end) p.outs.items) (map (λ t. g.K.In.InEnd.lane t.end) p.ins.items) (map (λ t. g.K.Out.OutEnd.capacity t.end) p.outs.items)) (λ p. p.ins.items) ps c.args.ranks long inv.whole (λ p. length_of_map (λ t. g.K.In.InEnd.lane t.end) p.ins.items) r p at) (λ k t here. ap bodies (inv.new_ins r p at k t here).0)

pub returns-clause-marks_taken : goal.returns-clause-marks_taken
returns-clause-marks_taken g c =
    let ps = c.loop-rank.group.items in
    let inv = c.loop-rank.invariant in
    let long : length ps ≡ c.args.ranks = omega (arith, inv.long, c.loop-rank-test.false, c.loop-rank.auto.rank-end, c.count-count.ensures.value) in
    λ r p at. by_rank_all (λ t. t.closed) false p.rank.0 c.args.ranks p.ins.items (count_in (λ p. wired p.rank.0 p.ranks (map (λ t. g.K.Out.OutEnd.lane t.end) p.outs.items) (map (λ t. g.K.In.InEnd.lane t.end) p.ins.items) (map (λ t. g.K.Out.OutEnd.capacity t.end) p.outs.items)) (λ p. p.ins.items) ps c.args.ranks long inv.whole (λ p. length_of_map (λ t. g.K.In.InEnd.lane t.end) p.ins.items) r p at) (λ k t here. (inv.new_ins r p at k t here).1)
