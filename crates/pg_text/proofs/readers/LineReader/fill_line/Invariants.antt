use Rattle.std.proofs.Common.{◌≡◌, ◌+◌, ◌-◌, ◌≤◌, length}
use Rattle.pg_text.specs.Coming.{held, bytes_ahead}
use Rattle.pg_text.proofs.ReaderLemmas.{LineSoFar}
use Rattle.pg_text.proofs.readers.LineReader.fill_line.Given as goal

abbrev pub invariant-loop-self : goal.invariant-loop-self
invariant-loop-self g l = record {
  later : g.I.Inputs.faults l.fn.inputs ≤ g.I.Inputs.faults l.inputs;
  begun : g.I.Inputs.begun l.inputs ≡ g.I.Inputs.begun l.fn.inputs;
  files : g.I.Inputs.files l.inputs ≡ g.I.Inputs.files l.fn.inputs;
  lines : l.self.lines ≡ l.fn.self.lines;
  so_far : LineSoFar l.fn.self.room (bytes_ahead l.fn.self (g.I.Inputs.left l.fn.inputs)) l.self (bytes_ahead l.self (g.I.Inputs.left l.inputs));
}

-- The bytes that may still be taken, and 1 before the first piece is read.
abbrev pub decreases-loop-self : goal.decreases-loop-self
decreases-loop-self g l = l.self.room + (1 - length (held l.self))
