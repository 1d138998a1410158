use Rattle.std.proofs.Common.{sym, ap, ◌∙◌, false, []}
use Rattle.pg_group.specs.Envelopes.{bodies}
use Rattle.pg_group.specs.Rounds.{ends_with_mark}
use Rattle.pg_group.proofs.ByRank.{lane_at}
use Rattle.pg_group.proofs.sockets.PortMailbox.closed.Goals as goal

pub returns-clause-flag : goal.returns-clause-flag
returns-clause-flag g c =
    let port = c.args.self.now in
    let p = c.index.result.now in
    sym (lane_at port.ins.items port.rank.0 port.ranks c.args.from.0 c.place.result p p c.requires.0 port.ins_fit port.in_group c.requires.1 c.place.ensures c.index.ensures (λ l. l.closed) false)

pub returns-clause-last : goal.returns-clause-last
returns-clause-last g c =
    let port = c.args.self.now in
    let p = c.index.result.now in
    λ set. ap ends_with_mark (lane_at port.ins.items port.rank.0 port.ranks c.args.from.0 c.place.result p p c.requires.0 port.ins_fit port.in_group c.requires.1 c.place.ensures c.index.ensures (λ l. bodies (g.K.In.InEnd.taken l.end)) []) ∙ p.mark set
