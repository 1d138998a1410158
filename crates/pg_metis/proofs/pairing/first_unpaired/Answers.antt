use Rattle.std.proofs.Common.{arith}
use Rattle.pg_metis.specs.Pairing.{arcs_named}
use Rattle.pg_metis.proofs.Settled.{settled_none, settled_all}
use Rattle.pg_metis.proofs.pairing.first_unpaired.Goals as goal

pub loop-u-init : goal.loop-u-init
loop-u-init c = record {
  count = omega (arith, c.in_ok-marks.ensures.len);
  settled = settled_none c.args.n (arcs_named c.args.arcs.now) c.args.edges.now c.in_ok-marks.marks.items c.requires.named c.requires.lower (c.in_ok-marks.ensures.items_if_clones_equal (λ y same. same));
}

pub returns : goal.returns
returns c =
    settled_all c.args.n c.loop-u.u (arcs_named c.args.arcs.now) c.args.edges.now c.loop-u.place.arcs c.loop-u.place.edges c.loop-u.marks.items c.requires.named (omega arith) c.loop-u.invariant.settled
