use Rattle.std.proofs.Common.{◌≡◌, ◌≤◌, ◌<◌, All, vec_len}
use Rattle.std.specs.Prelude.{vec_capacity}
use Rattle.pg_metis.specs.Ahead.{content_ahead}
use Rattle.pg_metis.specs.PartsReading.{TakesParts}
use Rattle.pg_metis.proofs.parts_files.read_lines.Given as goal

-- The lines of the vertices so far were taken.
abbrev pub invariant-loop-place : goal.invariant-loop-place
invariant-loop-place g l = record {
  later : g.I.Inputs.faults l.fn.inputs ≤ g.I.Inputs.faults l.inputs;
  begun : g.I.Inputs.begun l.inputs ≡ g.I.Inputs.begun l.fn.inputs;
  files : g.I.Inputs.files l.inputs ≡ g.I.Inputs.files l.fn.inputs;
  room : l.n ≤ vec_capacity l.parts;
  count : vec_len l.parts ≡ l._place;
  below : All (λ part. part < l.ranks) l.parts.items;
  taken : TakesParts l.parts.items (content_ahead l.fn.reader (g.I.Inputs.left l.fn.inputs)) (content_ahead l.reader (g.I.Inputs.left l.inputs));
}
