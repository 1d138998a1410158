use Rattle.std.proofs.Common.{◌≡◌, ◌<◌, ◌≤◌, ℕ, slice_index_or}
use Rattle.pg_base.specs.declared.edges.Edge.{Edge}
use Rattle.pg_top.proofs.weights.heaviest.Given as goal

abbrev pub invariant-loop-edge : goal.invariant-loop-edge
invariant-loop-edge l =
    record {
      same : l.edge-items ≡ l.fn.graph.edges;
      passed : (k : ℕ) (d : Edge) → k < l.edge-index → (slice_index_or l.edge-items k d).w ≤ l.most;
    }
