use Rattle.std.proofs.Common.{◌≡◌, ◌≤◌, ◌-◌, ◌^◌}
use Rattle.pg_text.specs.Coming.{Told}
use Rattle.pg_metis.specs.Ahead.{content_ahead}
use Rattle.pg_metis.proofs.content.next_content.Given as goal

-- The lines so far were comments, so that the content ahead is still the same.
abbrev pub invariant-loop-reader : goal.invariant-loop-reader
invariant-loop-reader g l = record {
  later : g.I.Inputs.faults l.fn.inputs ≤ g.I.Inputs.faults l.inputs;
  begun : g.I.Inputs.begun l.inputs ≡ g.I.Inputs.begun l.fn.inputs;
  files : g.I.Inputs.files l.inputs ≡ g.I.Inputs.files l.fn.inputs;
  lines : l.fn.reader.lines ≤ l.reader.lines;
  same : Told (content_ahead l.fn.reader (g.I.Inputs.left l.fn.inputs)) (content_ahead l.reader (g.I.Inputs.left l.inputs)) (λ was now. was ≡ now);
}

-- There are no more lines than numbers for them.
abbrev pub decreases-loop-reader : goal.decreases-loop-reader
decreases-loop-reader g l = 2 ^ 64 - l.reader.lines
