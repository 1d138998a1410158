use Rattle.std.proofs.Common.{◌≡◌, ◌≤◌, ◌-◌, length, All}
use Rattle.pg_text.specs.Coming.{Told}
use Rattle.pg_metis.specs.Ahead.{content_ahead, Passes}
use Rattle.pg_metis.specs.Batches.{IsWithin, lines_in}
use Rattle.pg_metis.proofs.gathering.gather.Given as goal

-- The lines in the batch are those that were taken.
abbrev pub invariant-loop-batch : goal.invariant-loop-batch
invariant-loop-batch g l = record {
  later : g.I.Inputs.faults l.fn.inputs ≤ g.I.Inputs.faults l.inputs;
  begun : g.I.Inputs.begun l.inputs ≡ g.I.Inputs.begun l.fn.inputs;
  files : g.I.Inputs.files l.inputs ≡ g.I.Inputs.files l.fn.inputs;
  few : length l.batch.lines.items ≤ l.most;
  none : length l.batch.lines.items ≡ 0 → length l.batch.bytes.items ≡ 0;
  within : All (IsWithin (length l.batch.bytes.items)) l.batch.lines.items;
  told : Told (content_ahead l.fn.reader (g.I.Inputs.left l.fn.inputs)) (content_ahead l.reader (g.I.Inputs.left l.inputs)) (Passes (lines_in l.batch));
}

-- Each turn takes one of the lines that are wanted.
abbrev pub decreases-loop-batch : goal.decreases-loop-batch
decreases-loop-batch g l = l.most - length l.batch.lines.items
