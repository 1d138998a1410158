use Rattle.std.proofs.Common.{refl, sym, ◌∙◌, true, false, [], map}
use Rattle.pg_group.specs.Envelopes.{bodies}
use Rattle.pg_group.specs.Ranked.{wired}
use Rattle.pg_group.specs.declared.messages.Body.TheVariants.{Mark}
use Rattle.pg_group.proofs.ByRank.{lane_grown, lane_kept, lane_set, lane_at, lane_before, lane_after, map-kept}
use Rattle.pg_lane.proofs.Order.{out_same, in_same}
use Rattle.pg_group.specs.LaterLanes.{all-same}
use Rattle.pg_group.proofs.Later.{all-set}
use Rattle.pg_group.proofs.sockets.PortMailbox.send_mark.Goals as goal

pub post-requires : goal.post-requires
post-requires g c =
    let port = c.args.self.now in
    let p = c.index_mut.result.now in
    sym (lane_at port.outs.items port.rank.0 port.ranks c.args.to.0 c.place-place.result p p c.requires.other.0 port.outs_fit port.in_group c.requires.other.1 c.place-place.ensures c.index_mut.ensures.value (λ l. l.marked) false) ∙ c.requires.unmarked

pub returns-then-post-clause-ok : goal.returns-then-post-clause-ok
returns-then-post-clause-ok g c =
    let port = c.args.self.now in
    let p = c.index_mut.result.now in
    lane_grown port.outs.items port.rank.0 port.ranks c.args.to.0 c.place-place.result p c.post.new.self c.requires.other.0 port.outs_fit port.in_group c.requires.other.1 c.place-place.ensures c.index_mut.ensures.value (λ l. bodies (g.K.Out.OutEnd.sent l.end)) (Mark c.args.vote) c.if-post.ensures.sends

pub returns-then-post-clause-marked : goal.returns-then-post-clause-marked
returns-then-post-clause-marked g c =
    let port = c.args.self.now in
    let p = c.index_mut.result.now in
    lane_set port.outs.items port.rank.0 port.ranks c.args.to.0 c.place-place.result p c.post.new.self c.requires.other.0 port.outs_fit port.in_group c.requires.other.1 c.place-place.ensures c.index_mut.ensures.value (λ l. l.marked) false true c.if-post.ensures.mark

pub returns-then-post-clause-rest : goal.returns-then-post-clause-rest
returns-then-post-clause-rest g c =
    let port = c.args.self.now in
    let p = c.index_mut.result.now in
    let lanes = map-kept (λ l. g.K.Out.OutEnd.lane l.end) port.outs.items c.place-place.result p c.post.new.self c.index_mut.ensures.value c.post.ensures.same_lane in
    let room = map-kept (λ l. g.K.Out.OutEnd.capacity l.end) port.outs.items c.place-place.result p c.post.new.self c.index_mut.ensures.value c.post.ensures.same_capacity in
    (refl, λ i. wired port.rank.0 port.ranks (lanes i) (map (λ l. g.K.In.InEnd.lane l.end) port.ins.items) (room i))

pub returns-else-post-clause-stays : goal.returns-else-post-clause-stays
returns-else-post-clause-stays g c =
    let port = c.args.self.now in
    let p = c.index_mut.result.now in
    lane_kept port.outs.items port.rank.0 port.ranks c.args.to.0 c.place-place.result p c.post.new.self c.requires.other.0 port.outs_fit port.in_group c.requires.other.1 c.place-place.ensures c.index_mut.ensures.value (λ l. bodies (g.K.Out.OutEnd.sent l.end)) [] c.if-post.ensures.sends

pub returns-else-post-clause-unmarked : goal.returns-else-post-clause-unmarked
returns-else-post-clause-unmarked g c =
    let port = c.args.self.now in
    let p = c.index_mut.result.now in
    lane_kept port.outs.items port.rank.0 port.ranks c.args.to.0 c.place-place.result p c.post.new.self c.requires.other.0 port.outs_fit port.in_group c.requires.other.1 c.place-place.ensures c.index_mut.ensures.value (λ l. l.marked) false (c.if-post.ensures.mark ∙ sym (sym (lane_at port.outs.items port.rank.0 port.ranks c.args.to.0 c.place-place.result p p c.requires.other.0 port.outs_fit port.in_group c.requires.other.1 c.place-place.ensures c.index_mut.ensures.value (λ l. l.marked) false) ∙ c.requires.unmarked))

pub returns-else-post-clause-cause : goal.returns-else-post-clause-cause
returns-else-post-clause-cause g c =
    let port = c.args.self.now in
    let p = c.index_mut.result.now in
    (p, c.post.new.self, lane_before port.outs.items port.rank.0 port.ranks c.args.to.0 c.place-place.result p c.post.new.self c.requires.other.0 port.outs_fit port.in_group c.requires.other.1 c.place-place.ensures c.index_mut.ensures.value, lane_after port.outs.items port.rank.0 port.ranks c.args.to.0 c.place-place.result p c.post.new.self c.requires.other.0 port.outs_fit port.in_group c.requires.other.1 c.place-place.ensures c.index_mut.ensures.value, c.if-post.ensures.cause)

pub returns-else-post-clause-rest : goal.returns-else-post-clause-rest
returns-else-post-clause-rest g c =
    let port = c.args.self.now in
    let p = c.index_mut.result.now in
    let lanes = map-kept (λ l. g.K.Out.OutEnd.lane l.end) port.outs.items c.place-place.result p c.post.new.self c.index_mut.ensures.value c.post.ensures.same_lane in
    let room = map-kept (λ l. g.K.Out.OutEnd.capacity l.end) port.outs.items c.place-place.result p c.post.new.self c.index_mut.ensures.value c.post.ensures.same_capacity in
    (refl, λ i. wired port.rank.0 port.ranks (lanes i) (map (λ l. g.K.In.InEnd.lane l.end) port.ins.items) (room i))

pub returns-then-post-clause-later : goal.returns-then-post-clause-later
returns-then-post-clause-later g c =
    let port = c.args.self.now in
    (all-set _ (λ a. out_same _ a.end) port.outs.items c.place-place.result c.index_mut.result.now c.post.new.self c.index_mut.ensures.value c.post.ensures.later, all-same _ (λ a. in_same _ a.end) port.ins.items)

pub returns-else-post-clause-later : goal.returns-else-post-clause-later
returns-else-post-clause-later g c =
    let port = c.args.self.now in
    (all-set _ (λ a. out_same _ a.end) port.outs.items c.place-place.result c.index_mut.result.now c.post.new.self c.index_mut.ensures.value c.post.ensures.later, all-same _ (λ a. in_same _ a.end) port.ins.items)
