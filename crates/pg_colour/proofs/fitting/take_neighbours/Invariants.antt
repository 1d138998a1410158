use Rattle.std.proofs.Common.{◌≡◌, length}
use Rattle.pg_cells.specs.Shown.{state_of}
use Rattle.pg_colour.specs.Seen.{at_places, at_slots}
use Rattle.pg_colour.proofs.TakenLemmas.{AreMarked}
use Rattle.pg_colour.proofs.fitting.take_neighbours.Given as goal

abbrev pub invariant-loop-k : goal.invariant-loop-k
invariant-loop-k l = record {
  marked : AreMarked l.part (at_places (state_of l.cells).own) (at_slots (state_of l.cells).ghosts) l.place l.k l.palette.stamps.items l.palette.stamp;
  count : length l.palette.stamps.items ≡ length l.initial.palette.stamps.items;
}
