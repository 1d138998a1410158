use Rattle.pg_metis.proofs.PairedEdges.{edges_read}
use Rattle.pg_metis.proofs.pairing.edges_of.Goals as goal

pub returns-in-None-clause-ok : goal.returns-in-None-clause-ok
returns-in-None-clause-ok c =
    edges_read c.args.n c.args.arcs.items c.deref-2.result.now c.deref-3.result.now c.in_ok-edges-2.edges.items c.in_ok-first_unpaired.field-0 c.deref-2.ensures.value c.deref-3.ensures.value c.requires.named c.in_ok-edges-2.ensures
    c.in_ok-first_unpaired.ensures c.in-None.is
