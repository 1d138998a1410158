use Rattle.std.proofs.Common.{◌≡◌, map}
use Rattle.pg_group.specs.Envelopes.{bodies}
use Rattle.pg_group.proofs.ByRank.{cleared}
use Rattle.pg_group.specs.LaterLanes.{AllLater}
use Rattle.pg_lane.specs.EndLater.{OutLater, InLater}
use Rattle.pg_group.proofs.sockets.PortMailbox.next_round.Given as goal

abbrev pub invariant-loop-i : goal.invariant-loop-i
invariant-loop-i g l =
    record {
      own : l.self.rank ≡ l.fn.self.rank;
      size : l.self.ranks ≡ l.fn.self.ranks;
      ins : l.self.ins.items ≡ l.fn.self.ins.items;
      sent : map (λ t. bodies (g.K.Out.OutEnd.sent t.end)) l.self.outs.items ≡ map (λ t. bodies (g.K.Out.OutEnd.sent t.end)) l.fn.self.outs.items;
      lanes : map (λ t. g.K.Out.OutEnd.lane t.end) l.self.outs.items ≡ map (λ t. g.K.Out.OutEnd.lane t.end) l.fn.self.outs.items;
      capacities : map (λ t. g.K.Out.OutEnd.capacity t.end) l.self.outs.items ≡ map (λ t. g.K.Out.OutEnd.capacity t.end) l.fn.self.outs.items;
      later : AllLater (λ a b. OutLater g.K.Out.OutEnd a.end b.end) l.fn.self.outs.items l.self.outs.items;
      marks : map (λ t. t.marked) l.self.outs.items ≡ cleared l.i (map (λ t. t.marked) l.fn.self.outs.items);
    }

abbrev pub invariant-loop-i-2 : goal.invariant-loop-i-2
invariant-loop-i-2 g l =
    record {
      own : l.self.rank ≡ l.initial.self.rank;
      size : l.self.ranks ≡ l.initial.self.ranks;
      outs : l.self.outs.items ≡ l.initial.self.outs.items;
      taken : map (λ t. bodies (g.K.In.InEnd.taken t.end)) l.self.ins.items ≡ map (λ t. bodies (g.K.In.InEnd.taken t.end)) l.initial.self.ins.items;
      lanes : map (λ t. g.K.In.InEnd.lane t.end) l.self.ins.items ≡ map (λ t. g.K.In.InEnd.lane t.end) l.initial.self.ins.items;
      later : AllLater (λ a b. InLater g.K.In.InEnd a.end b.end) l.initial.self.ins.items l.self.ins.items;
      marks : map (λ t. t.closed) l.self.ins.items ≡ cleared l.i (map (λ t. t.closed) l.initial.self.ins.items);
    }
