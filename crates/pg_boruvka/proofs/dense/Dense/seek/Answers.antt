use Rattle.std.proofs.Common.{◌+◌}
use Rattle.pg_boruvka.specs.Known.{view_of}
use Rattle.pg_boruvka.proofs.Seeking.{then_further, further_to, further_past}
use Rattle.pg_boruvka.proofs.dense.Dense.seek.Goals as goal

pub returns-in-Some-clause-further : goal.returns-in-Some-clause-further
returns-in-Some-clause-further c =
    let d = c.loop-self.self in
    then_further (view_of c.args.self.now) (view_of d) d.to c.in-Some.number c.loop-self.invariant.further
    (further_to (view_of d) c.in-Some.number c.in-Some.message c.in-Some.ensures.next)

pub loop-self-preserved : goal.loop-self-preserved
loop-self-preserved c =
    let d = c.loop-self.self in
    record {
      further = then_further (view_of c.args.self.now) (view_of d) (d.to + 1) 0 c.loop-self.invariant.further (further_past (view_of d) c.in_default.ensures.none);
      idle = c.loop-self.invariant.idle;
    }
