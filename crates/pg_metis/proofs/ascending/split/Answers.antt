use Rattle.std.proofs.Common.{arith, ap, refl, sym, subst, Vec, Global, ◌+◌, length, take}
use Rattle.pg_base.specs.declared.edges.Edge.{Edge}
use Rattle.pg_base.specs.declared.TheConstants.{MAX_VERTICES}
use Rattle.pg_metis.specs.Ascending.{AreBackOrBlank}
use Rattle.pg_metis.specs.Pairing.{arcs_named}
use Rattle.pg_metis.proofs.NamedArcs.{is_named}
use Rattle.pg_metis.proofs.Splitting.{AreForth, back_more, forth_added, forth_few, forth_same, from_within, in_block, no_arc}
use Rattle.pg_metis.proofs.ascending.split.Goals as goal
use Rattle.pg_metis.proofs.ascending.split.Goals.{then-arc+else-not-put_back, else-arc+else-not-precedes+in_ok-push}

pub put_back-requires-clause-vertex : goal.put_back-requires-clause-vertex
put_back-requires-clause-vertex c =
    let is = is_named MAX_VERTICES c.args.arcs.now c.loop-arc.arc-index no_arc c.requires.named c.loop-arc-test.true in
    let u = ap (λ (e : Edge). e.u) c.edge_from.ensures in
    let block = in_block c.edge_from.result.u (omega (arith, is.to_last, u)) in omega (arith, block, c.loop-arc.invariant.count)

pub overflow_cast-len : goal.overflow_cast-len
overflow_cast-len c =
    let few = forth_few c.args.arcs.now c.loop-arc.arc-index c.loop-arc.last c.loop-arc.edges.items c.loop-arc-test.true c.loop-arc.invariant.forth in omega (arith, few, c.requires.size, c.len.ensures)

pub begin_row-requires-clause-vertex : goal.begin_row-requires-clause-vertex
begin_row-requires-clause-vertex c =
    let within = from_within c.args.arcs.now c.loop-arc.arc-index no_arc (length c.args.cursors.now) c.loop-arc-test.true c.requires.few in
    let u = ap (λ (e : Edge). e.u) c.edge_to-edge.ensures in omega (arith, within, u, c.loop-arc.auto.cursors)

pub begin_row-requires-clause-block : goal.begin_row-requires-clause-block
begin_row-requires-clause-block c =
    let is = is_named MAX_VERTICES c.args.arcs.now c.loop-arc.arc-index no_arc c.requires.named c.loop-arc-test.true in
    let u = ap (λ (e : Edge). e.u) c.edge_to-edge.ensures in
    let block = in_block c.edge_to-edge.result.u (omega (arith, is.from_last, u)) in omega (arith, block, c.loop-arc.invariant.count)

pub loop-arc-preserved : goal.loop-arc-preserved
loop-arc-preserved c =
    elim c.if-arc.branch [
      | then-arc+else-not-put_back w ↦ record {
        count = let ends = ap length w.ends-is in omega (arith, ends, w.put_back.auto.ends, c.loop-arc.invariant.count);
        forth = subst (λ (last : Edge). AreForth (take (c.loop-arc.arc-index + 1) (arcs_named c.args.arcs.now)) last c.if-arc.edges.items) (sym w.last-is)
            (subst (λ (v : Vec Edge Global). AreForth (take (c.loop-arc.arc-index + 1) (arcs_named c.args.arcs.now)) c.loop-arc.last v.items) (sym w.edges-is)
            (forth_same c.args.arcs.now c.loop-arc.arc-index no_arc c.loop-arc.last c.loop-arc.edges.items c.loop-arc-test.true (omega (arith, w.if-arc.true)) c.loop-arc.invariant.forth));
        back = subst (AreBackOrBlank (arcs_named c.args.arcs.now)) (sym w.back-is)
            (back_more c.args.arcs.now c.loop-arc.arc-index _ no_arc w.edge_from.result c.loop-arc.back w.put_back.new.back c.loop-arc-test.true c.loop-arc.invariant.back w.edge_from.ensures (w.if-not-put_back.ensures.back refl));
      }
      | else-arc+else-not-precedes+in_ok-push w ↦ record {
        count = let ends = ap length w.ends-is in omega (arith, ends, w.begin_row.auto.ends, c.loop-arc.invariant.count);
        forth =
            let is = is_named MAX_VERTICES c.args.arcs.now c.loop-arc.arc-index no_arc c.requires.named c.loop-arc-test.true in
            let other = is.other in
            subst (λ (last : Edge). AreForth (take (c.loop-arc.arc-index + 1) (arcs_named c.args.arcs.now)) last c.if-arc.edges.items) (sym w.last-is)
            (subst (λ (v : Vec Edge Global). AreForth (take (c.loop-arc.arc-index + 1) (arcs_named c.args.arcs.now)) w.edge_to-edge.result v.items) (sym w.edges-is)
            (forth_added c.args.arcs.now c.loop-arc.arc-index no_arc c.loop-arc.last w.edge_to-edge.result c.loop-arc.edges.items w.push.new.self.items c.loop-arc-test.true (omega (arith, w.if-arc.false)) c.loop-arc.invariant.forth
            w.edge_to-edge.ensures (w.if-not-precedes.ensures refl) w.in_ok-push.ensures.items));
        back = subst (AreBackOrBlank (arcs_named c.args.arcs.now)) (sym w.back-is) c.loop-arc.invariant.back;
      }
    ]
