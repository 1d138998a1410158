use Rattle.std.proofs.Common.{◌≡◌, length, map}
use Rattle.std.specs.Vec.{vec_capacity}
use Rattle.pg_lane.specs.Settled.{settled_sent, settled_taken}
use Rattle.pg_group.proofs.Ending.{IsEnding}
use Rattle.pg_group.proofs.closing.close_ports.Given as goal

abbrev pub invariant-loop-lane : goal.invariant-loop-lane
invariant-loop-lane g l =
    record {
      ending : IsEnding (λ out inn. g.K.Out.OutEnd.lane out.end ≡ g.K.In.InEnd.lane inn.end)
          (λ out inn lane. (settled_sent lane ≡ g.K.Out.OutEnd.sent out.end) × (settled_taken lane ≡ g.K.In.InEnd.taken inn.end) × (lane.capacity ≡ g.K.Out.OutEnd.capacity out.end))
          (length l.fn.ports.items) l.others (map (λ p. p.outs.items) l.fn.ports.items) (map (λ p. p.ins.items) l.fn.ports.items)
          l.lane (map (λ p. p.outs.items) l.ports.items) (map (λ p. p.ins.items) l.ports.items) l.lanes.items;
      ports : length l.ports.items ≡ length l.fn.ports.items;
      room : vec_capacity l.lanes ≡ vec_capacity l.fn.lanes;
    }
