use Rattle.std.proofs.Common.{arith, refl}
use Rattle.pg_metis.proofs.AscendingEdges.{edges_lent}
use Rattle.pg_metis.proofs.ascending.ascending_edges.Goals as goal

pub returns : goal.returns
returns c =
    edges_lent c.args.n c.args.arcs.now c.split.new.edges.items c.split.new.back c.deref.result.now c.deref-else-len-arcs.result.now _ c.in_ok-back.back.len c.requires.named (c.in_ok-split.ensures.edges c.if-not-branch.false)
    (c.in_ok-split.ensures.ascending c.if-not-branch.false) (c.in_ok-split.ensures.back c.if-not-branch.false) c.deref.ensures.value (omega arith) c.deref-else-len-arcs.ensures.value (c.if-not-all_met.ensures.among refl)
    (c.if-not-all_met.ensures.once refl) (omega (arith, c.in_ok-back.ensures.len)) (omega arith)
