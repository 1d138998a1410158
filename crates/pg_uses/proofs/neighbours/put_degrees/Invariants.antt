use Rattle.std.proofs.Common.{◌≡◌, max}
use Rattle.pg_cells.specs.Runs.{Run}
use Rattle.pg_cells.specs.Shown.{state_of}
use Rattle.pg_uses.specs.DegreeMaps.{degree_puts, no_degree}
use Rattle.pg_uses.proofs.neighbours.put_degrees.Given as goal

abbrev pub invariant-loop-place : goal.invariant-loop-place
invariant-loop-place l = record {
  puts : Run max no_degree (state_of l.initial.cells) (degree_puts l.part l.place) (state_of l.cells);
  same_part : l.cells.part ≡ l.initial.cells.part;
  same_flags : (state_of l.cells).flags ≡ (state_of l.initial.cells).flags;
  same_phase : l.cells.phase ≡ l.initial.cells.phase;
}
