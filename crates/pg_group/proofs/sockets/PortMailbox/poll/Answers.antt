use Rattle.std.proofs.Common.{sym, ◌∙◌, true, false, [], map}
use Rattle.pg_group.specs.Envelopes.{bodies}
use Rattle.pg_group.specs.Ranked.{wired}
use Rattle.pg_group.specs.declared.messages.Body.TheVariants.{Item, Mark}
use Rattle.pg_group.proofs.Lanes.{round_grows}
use Rattle.pg_group.proofs.Answered.{item_so, mark_so, empty_so, closed_so}
use Rattle.pg_group.proofs.ByRank.{lane_grown, lane_kept, lane_set, lane_at, lane_at_new, lane_before, lane_after, map-kept}
use Rattle.pg_lane.proofs.Order.{out_same, in_same}
use Rattle.pg_group.specs.LaterLanes.{all-same}
use Rattle.pg_group.proofs.Later.{all-set}
use Rattle.pg_group.proofs.sockets.PortMailbox.poll.Goals as goal

pub returns-clause-item : goal.returns-clause-item
returns-clause-item g c =
    let port = c.args.self.now in
    let p = c.index_mut.result.now in
    let q = c.take.new.self in
    item_so c.take.result _ _ (λ x h. lane_grown port.ins.items port.rank.0 port.ranks c.args.from.0 c.place-place.result p q c.requires.0 port.ins_fit port.in_group c.requires.1 c.place-place.ensures c.index_mut.ensures.value (λ l. bodies (g.K.In.InEnd.taken l.end)) (Item x) h.0) c.take.ensures.item

pub returns-clause-open : goal.returns-clause-open
returns-clause-open g c =
    let port = c.args.self.now in
    let p = c.index_mut.result.now in
    let q = c.take.new.self in
    item_so c.take.result _ _ (λ x h. lane_kept port.ins.items port.rank.0 port.ranks c.args.from.0 c.place-place.result p q c.requires.0 port.ins_fit port.in_group c.requires.1 c.place-place.ensures c.index_mut.ensures.value (λ l. l.closed) false h.1) c.take.ensures.item

pub returns-clause-of_round : goal.returns-clause-of_round
returns-clause-of_round g c =
    let port = c.args.self.now in
    let p = c.index_mut.result.now in
    let q = c.take.new.self in
    let before = lane_at port.ins.items port.rank.0 port.ranks c.args.from.0 c.place-place.result p q c.requires.0 port.ins_fit port.in_group c.requires.1 c.place-place.ensures c.index_mut.ensures.value (λ l. bodies (g.K.In.InEnd.taken l.end)) [] in
    let after = lane_at_new port.ins.items port.rank.0 port.ranks c.args.from.0 c.place-place.result p q c.requires.0 port.ins_fit port.in_group c.requires.1 c.place-place.ensures c.index_mut.ensures.value (λ l. bodies (g.K.In.InEnd.taken l.end)) [] in
    item_so c.take.result _ _
    (λ x h. round_grows (bodies (g.K.In.InEnd.taken p.end)) _ _ x before (after ∙ h.0))
    c.take.ensures.item

pub returns-clause-mark : goal.returns-clause-mark
returns-clause-mark g c =
    let port = c.args.self.now in
    let p = c.index_mut.result.now in
    let q = c.take.new.self in
    mark_so c.take.result _ _ (λ v h. lane_grown port.ins.items port.rank.0 port.ranks c.args.from.0 c.place-place.result p q c.requires.0 port.ins_fit port.in_group c.requires.1 c.place-place.ensures c.index_mut.ensures.value (λ l. bodies (g.K.In.InEnd.taken l.end)) (Mark v) h.0) c.take.ensures.mark

pub returns-clause-ends : goal.returns-clause-ends
returns-clause-ends g c =
    let port = c.args.self.now in
    let p = c.index_mut.result.now in
    let q = c.take.new.self in
    mark_so c.take.result _ _ (λ v h. lane_set port.ins.items port.rank.0 port.ranks c.args.from.0 c.place-place.result p q c.requires.0 port.ins_fit port.in_group c.requires.1 c.place-place.ensures c.index_mut.ensures.value (λ l. l.closed) false true h.1) c.take.ensures.mark

pub returns-clause-empty : goal.returns-clause-empty
returns-clause-empty g c =
    let port = c.args.self.now in
    let p = c.index_mut.result.now in
    let q = c.take.new.self in
    empty_so c.take.result _ _ (λ h. (lane_kept port.ins.items port.rank.0 port.ranks c.args.from.0 c.place-place.result p q c.requires.0 port.ins_fit port.in_group c.requires.1 c.place-place.ensures c.index_mut.ensures.value (λ l. bodies (g.K.In.InEnd.taken l.end)) [] h.0, lane_kept port.ins.items port.rank.0 port.ranks c.args.from.0 c.place-place.result p q c.requires.0 port.ins_fit port.in_group c.requires.1 c.place-place.ensures c.index_mut.ensures.value (λ l. l.closed) false h.1)) c.take.ensures.empty

pub returns-clause-cause : goal.returns-clause-cause
returns-clause-cause g c =
    let port = c.args.self.now in
    let p = c.index_mut.result.now in
    let q = c.take.new.self in
    empty_so c.take.result _ _ (λ h. (p, q, lane_before port.ins.items port.rank.0 port.ranks c.args.from.0 c.place-place.result p q c.requires.0 port.ins_fit port.in_group c.requires.1 c.place-place.ensures c.index_mut.ensures.value, lane_after port.ins.items port.rank.0 port.ranks c.args.from.0 c.place-place.result p q c.requires.0 port.ins_fit port.in_group c.requires.1 c.place-place.ensures c.index_mut.ensures.value, h)) c.take.ensures.cause

pub returns-clause-closed : goal.returns-clause-closed
returns-clause-closed g c =
    let port = c.args.self.now in
    let p = c.index_mut.result.now in
    let q = c.take.new.self in
    c.take.ensures.closed ∙ sym (lane_at port.ins.items port.rank.0 port.ranks c.args.from.0 c.place-place.result p q c.requires.0 port.ins_fit port.in_group c.requires.1 c.place-place.ensures c.index_mut.ensures.value (λ l. l.closed) false)

pub returns-clause-stays : goal.returns-clause-stays
returns-clause-stays g c =
    let port = c.args.self.now in
    let p = c.index_mut.result.now in
    let q = c.take.new.self in
    closed_so c.take.result _ _ (λ h. (lane_kept port.ins.items port.rank.0 port.ranks c.args.from.0 c.place-place.result p q c.requires.0 port.ins_fit port.in_group c.requires.1 c.place-place.ensures c.index_mut.ensures.value (λ l. bodies (g.K.In.InEnd.taken l.end)) [] h.0, lane_kept port.ins.items port.rank.0 port.ranks c.args.from.0 c.place-place.result p q c.requires.0 port.ins_fit port.in_group c.requires.1 c.place-place.ensures c.index_mut.ensures.value (λ l. l.closed) false h.1)) c.take.ensures.stays

pub returns-clause-same_wiring : goal.returns-clause-same_wiring
returns-clause-same_wiring g c =
    let port = c.args.self.now in
    let p = c.index_mut.result.now in
    let q = c.take.new.self in
    let lanes = map-kept (λ l. g.K.In.InEnd.lane l.end) port.ins.items c.place-place.result p q c.index_mut.ensures.value c.take.ensures.same_lane in
    λ i. wired port.rank.0 port.ranks (map (λ l. g.K.Out.OutEnd.lane l.end) port.outs.items) (lanes i) (map (λ l. g.K.Out.OutEnd.capacity l.end) port.outs.items)

pub returns-clause-later : goal.returns-clause-later
returns-clause-later g c =
    let port = c.args.self.now in
    (all-same _ (λ a. out_same _ a.end) port.outs.items, all-set _ (λ a. in_same _ a.end) port.ins.items c.place-place.result c.index_mut.result.now c.take.new.self c.index_mut.ensures.value c.take.ensures.later)
