use Rattle.std.proofs.Common.{◌≡◌, ◌≤◌}
use Rattle.pg_metis.specs.Headers.{header_in}
use Rattle.pg_metis.specs.Ahead.{content_ahead}
use Rattle.pg_metis.specs.Reading.{ReadsRows}
use Rattle.pg_metis.proofs.reading.read_rows.Given as goal

-- The lines of the vertices so far were taken.
abbrev pub invariant-loop-place : goal.invariant-loop-place
invariant-loop-place g l = record {
  later : g.I.Inputs.faults l.fn.inputs ≤ g.I.Inputs.faults l.inputs;
  begun : g.I.Inputs.begun l.inputs ≡ g.I.Inputs.begun l.fn.inputs;
  files : g.I.Inputs.files l.inputs ≡ g.I.Inputs.files l.fn.inputs;
  read : ReadsRows (header_in l.fn.header) l.place l.rows (content_ahead l.fn.reader (g.I.Inputs.left l.fn.inputs)) (content_ahead l.reader (g.I.Inputs.left l.inputs));
}
