use Rattle.std.proofs.Common.{◌≤◌, take}
use Rattle.std.specs.Io.KnownBytes.{Appends}
use Rattle.pg_print.specs.Columns.{column_text}
use Rattle.pg_print.proofs.columns.print_column.Given as goal

abbrev pub invariant-loop-place : goal.invariant-loop-place
invariant-loop-place g l = record {
  later : g.S.Sink.faults l.initial.out ≤ g.S.Sink.faults l.out;
  written : Appends (g.S.Sink.text l.initial.out) (g.S.Sink.text l.out) (column_text (take l.place (g.C.Column.answers l.column)));
}
