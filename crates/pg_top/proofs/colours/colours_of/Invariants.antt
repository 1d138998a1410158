use Rattle.std.proofs.Common.{◌≡◌, ◌≤◌, ◌<◌, ◌+◌, ℕ, length, None}
use Rattle.std.specs.Prelude.{slice_index_or}
use Rattle.std.specs.Vec.{vec_capacity}
use Rattle.pg_top.specs.Coloured.{held_colour}
use Rattle.pg_top.proofs.colours.colours_of.Given as goal

abbrev pub invariant-loop-place : goal.invariant-loop-place
invariant-loop-place g l =
    record {
      count : length l.of_vertices.items ≡ l.place;
      room : (g.D.Distribution.sharing l.dist).n ≤ vec_capacity l.of_vertices;
      each : (v : ℕ) → v < l.place → slice_index_or l.of_vertices.items v None ≡ held_colour (g.D.Distribution.sharing l.dist) l.programs (v + 1);
    }
