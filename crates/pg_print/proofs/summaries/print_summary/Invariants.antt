use Rattle.std.proofs.Common.{◌≡◌, ◌≤◌, map, take}
use Rattle.std.specs.Io.KnownBytes.{Appends}
use Rattle.std.specs.List.{flat_map}
use Rattle.pg_print.specs.Summaries.{summary_lines}
use Rattle.pg_print.proofs.summaries.print_summary.Given as goal

abbrev pub invariant-loop-line : goal.invariant-loop-line
invariant-loop-line g l = record {
  same : map (λ line. line.bytes) l.line-items ≡ summary_lines l.fn.summary;
  later : g.S.Sink.faults l.initial.out ≤ g.S.Sink.faults l.out;
  written : Appends (g.S.Sink.text l.initial.out) (g.S.Sink.text l.out) (flat_map (λ line. line) (take l.line-index (summary_lines l.fn.summary)));
}
