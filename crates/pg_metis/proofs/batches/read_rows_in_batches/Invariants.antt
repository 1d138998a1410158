use Rattle.std.proofs.Common.{◌≡◌, ◌≤◌, ◌-◌, length}
use Rattle.pg_metis.specs.Headers.{header_in}
use Rattle.pg_metis.specs.Ahead.{content_ahead}
use Rattle.pg_metis.specs.Batches.{ReadsPieceRows}
use Rattle.pg_metis.proofs.batches.read_rows_in_batches.Given as goal

-- The lines of the vertices whose numbers are known were taken.
abbrev pub invariant-loop-alloc : goal.invariant-loop-alloc
invariant-loop-alloc g l = record {
  later : g.I.Inputs.faults l.fn.inputs ≤ g.I.Inputs.faults l.inputs;
  begun : g.I.Inputs.begun l.inputs ≡ g.I.Inputs.begun l.fn.inputs;
  files : g.I.Inputs.files l.inputs ≡ g.I.Inputs.files l.fn.inputs;
  few : length l.rows.numbers.items ≤ l.fn.header.n;
  read : ReadsPieceRows (header_in l.fn.header) (length l.rows.numbers.items) l.rows (content_ahead l.fn.reader (g.I.Inputs.left l.fn.inputs)) (content_ahead l.reader (g.I.Inputs.left l.inputs));
}

-- Each batch has a line at least.
abbrev pub decreases-loop-alloc : goal.decreases-loop-alloc
decreases-loop-alloc g l = l.header.n - length l.rows.numbers.items
