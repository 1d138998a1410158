use Rattle.std.proofs.Common.{◌≡◌, ◌≤◌, ◌<◌, ◌+◌, ℕ, length, map, None}
use Rattle.std.specs.Prelude.{slice_index_or}
use Rattle.std.specs.Vec.{vec_capacity}
use Rattle.pg_top.specs.declared.columns.Field.TheVariants.{Class}
use Rattle.pg_top.specs.Paired.{roots_in}
use Rattle.pg_top.specs.Relaxed.{field_in, value_of}
use Rattle.pg_top.proofs.pairs.roots_of.Given as goal

abbrev pub invariant-loop-place : goal.invariant-loop-place
invariant-loop-place g l =
    record {
      count : length l.of_vertices.items ≡ l.place;
      room : (g.D.Distribution.sharing l.dist).n ≤ vec_capacity l.of_vertices;
      each : (v : ℕ) → v < l.place → slice_index_or l.of_vertices.items v None ≡ field_in Class (value_of (g.D.Distribution.sharing l.dist) (map roots_in l.pairs) (v + 1));
    }
