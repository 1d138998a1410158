use Rattle.pg_text.specs.Text.{words}
use Rattle.pg_metis.specs.Rows.{Skips}
use Rattle.pg_metis.proofs.rows.skip_numbers.Given as goal

-- The words so far were numbers.
abbrev pub invariant-loop-place : goal.invariant-loop-place
invariant-loop-place l = record {
  skipped : Skips l._place (words l.fn.left.rest.now) (words l.left.rest.now);
  goes : (goal.iterator-loop-place).can_next l.left × (goal.iterator-loop-place).is_finite l.left;
}
