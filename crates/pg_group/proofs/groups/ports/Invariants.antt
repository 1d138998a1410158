use Rattle.std.proofs.Common.{◌≡◌, [], false, length, map}
use Rattle.pg_group.specs.Entries.{Each}
use Rattle.pg_group.specs.Ranked.{wired}
use Rattle.pg_group.specs.Grouped.{AreOneGroup}
use Rattle.pg_group.proofs.groups.ports.Given as goal

abbrev pub invariant-loop-rank : goal.invariant-loop-rank
invariant-loop-rank g l =
    record {
      long : length l.group.items ≡ l.rank;
      whole : AreOneGroup (map (λ p. wired p.rank.0 p.ranks (map (λ t. g.K.Out.OutEnd.lane t.end) p.outs.items) (map (λ t. g.K.In.InEnd.lane t.end) p.ins.items) (map (λ t. g.K.Out.OutEnd.capacity t.end) p.outs.items)) l.group.items);
      new_outs : Each (λ rank p. Each (λ place t. (g.K.Out.OutEnd.sent t.end ≡ []) × (t.marked ≡ false) × (g.K.Out.OutEnd.capacity t.end ≡ l.capacity)) p.outs.items) l.group.items;
      new_ins : Each (λ rank p. Each (λ place t. (g.K.In.InEnd.taken t.end ≡ []) × (t.closed ≡ false)) p.ins.items) l.group.items;
    }
