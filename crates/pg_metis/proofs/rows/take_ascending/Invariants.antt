use Rattle.pg_text.specs.Text.{words}
use Rattle.pg_metis.proofs.AscendingLemmas.{TakesAscending}
use Rattle.pg_metis.proofs.rows.take_ascending.Given as goal

-- The words so far had no fault, and the arcs that they name were added.
abbrev pub invariant-loop-word : goal.invariant-loop-word
invariant-loop-word l = record {
  taken : TakesAscending l.fn.header.format.edge_weights l.fn.header.n l.fn.vertex l.last (words l.fn.left.rest.now) (words l.left.rest.now) l.fn.arcs l.arcs;
  goes : (goal.iterator-loop-word).can_next l.left × (goal.iterator-loop-word).is_finite l.left;
}
