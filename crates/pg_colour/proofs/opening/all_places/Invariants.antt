use Rattle.std.proofs.Common.{◌≡◌}
use Rattle.std.specs.List.{range_with_len}
use Rattle.std.specs.Vec.{vec_capacity}
use Rattle.pg_colour.proofs.opening.all_places.Given as goal

abbrev pub invariant-loop-place : goal.invariant-loop-place
invariant-loop-place l = record {
  listed : l.list.items ≡ range_with_len 0 l.place;
  room : vec_capacity l.list ≡ vec_capacity l.initial.list;
}
