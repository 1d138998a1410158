use Rattle.std.proofs.Common.{◌≡◌}
use Rattle.std.specs.Vec.{vec_capacity}
use Rattle.pg_cells.specs.Shown.{state_of}
use Rattle.pg_colour.specs.Seen.{at_places, at_slots}
use Rattle.pg_colour.proofs.ClashLemmas.{AreListed}
use Rattle.pg_colour.proofs.clashes.list_clashes.Given as goal

abbrev pub invariant-loop-place : goal.invariant-loop-place
invariant-loop-place l = record {
  listed : AreListed l.part (at_places (state_of l.cells).own) (at_slots (state_of l.cells).ghosts) l.place l.list.items;
  room : vec_capacity l.list ≡ vec_capacity l.initial.list;
}
