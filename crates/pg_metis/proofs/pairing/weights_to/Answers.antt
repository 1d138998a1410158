use Rattle.std.proofs.Common.{arith, sym, subst, take, Vec, Global, ℕ, length, ◌+◌, ◌≡◌}
use Rattle.std.proofs.lemmas.List.{length-set}
use Rattle.pg_metis.specs.Pairing.{arcs_named}
use Rattle.pg_metis.proofs.NamedArcs.{from_below, is_named}
use Rattle.pg_metis.proofs.Weights.{AreEntered, all_entered, weight_written, weight_passed}
use Rattle.pg_metis.proofs.pairing.weights_to.Goals as goal
use Rattle.pg_metis.proofs.pairing.weights_to.Goals.{then-arc-vertex, else-arc-vertex}

pub overflow_sub-arc : goal.overflow_sub-arc
overflow_sub-arc c = (is_named c.args.n c.args.arcs.now c.loop-arc.arc-index _ c.requires c.loop-arc-test.true).from_first

pub index_mut-requires : goal.index_mut-requires
index_mut-requires c = from_below c.args.n c.loop-arc.weights.len c.args.arcs.now c.loop-arc.arc-index _ (omega arith) c.requires c.loop-arc-test.true

pub loop-arc-preserved : goal.loop-arc-preserved
loop-arc-preserved c =
    elim c.if-arc-vertex.branch [
      | then-arc-vertex w ↦ record {
        count = subst (λ (v : Vec ℕ Global). length v.items ≡ c.args.n) (sym w.weights-is) (omega (arith, length-set {A = ℕ}));
        entered = subst (λ (v : Vec ℕ Global). AreEntered c.args.vertex (arcs_named c.args.arcs.now) (take (c.loop-arc.arc-index + 1) (arcs_named c.args.arcs.now)) v.items) (sym w.weights-is)
            (weight_written c.args.arcs.now c.args.n c.args.vertex c.loop-arc.arc-index _ c.requires c.loop-arc-test.true c.loop-arc.weights.items c.loop-arc.invariant.count c.loop-arc.invariant.entered w.if-arc-vertex.true);
      }
      | else-arc-vertex w ↦ record {
        count = subst (λ (v : Vec ℕ Global). length v.items ≡ c.args.n) (sym w.weights-is) c.loop-arc.invariant.count;
        entered = subst (λ (v : Vec ℕ Global). AreEntered c.args.vertex (arcs_named c.args.arcs.now) (take (c.loop-arc.arc-index + 1) (arcs_named c.args.arcs.now)) v.items) (sym w.weights-is)
            (weight_passed c.args.arcs.now c.args.n c.args.vertex c.loop-arc.arc-index _ c.requires c.loop-arc-test.true c.loop-arc.weights.items c.loop-arc.invariant.entered w.if-arc-vertex.false);
      }
    ]

pub returns-clause-weights : goal.returns-clause-weights
returns-clause-weights c = all_entered c.args.arcs.now c.args.vertex c.loop-arc.arc-index c.loop-arc.weights.items c.loop-arc-test.false c.loop-arc.invariant.entered
