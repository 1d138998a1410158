use Rattle.std.proofs.Common.{◌≡◌, [], false, map}
use Rattle.pg_group.specs.Entries.{Each}
use Rattle.pg_group.specs.Ranked.{wired}
use Rattle.pg_group.proofs.Growing.{Growing}
use Rattle.pg_group.proofs.groups.add_rank.Given as goal

abbrev pub invariant-loop-rank : goal.invariant-loop-rank
invariant-loop-rank g l =
    record {
      group : Growing (λ p. wired p.rank.0 p.ranks (map (λ t. g.K.Out.OutEnd.lane t.end) p.outs.items) (map (λ t. g.K.In.InEnd.lane t.end) p.ins.items) (map (λ t. g.K.Out.OutEnd.capacity t.end) p.outs.items))
          l.own.0 l.rank l.group.items (map (λ t. g.K.Out.OutEnd.lane t.end) l.outs.items) (map (λ t. g.K.In.InEnd.lane t.end) l.ins.items);
      new_outs : Each (λ rank p. Each (λ place t. (g.K.Out.OutEnd.sent t.end ≡ []) × (t.marked ≡ false) × (g.K.Out.OutEnd.capacity t.end ≡ l.capacity)) p.outs.items) l.group.items;
      new_ins : Each (λ rank p. Each (λ place t. (g.K.In.InEnd.taken t.end ≡ []) × (t.closed ≡ false)) p.ins.items) l.group.items;
      outs : Each (λ place t. (g.K.Out.OutEnd.sent t.end ≡ []) × (t.marked ≡ false) × (g.K.Out.OutEnd.capacity t.end ≡ l.capacity)) l.outs.items;
      ins : Each (λ place t. (g.K.In.InEnd.taken t.end ≡ []) × (t.closed ≡ false)) l.ins.items;
    }
