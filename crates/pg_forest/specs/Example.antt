-- One phase of Borůvka's method on the path 1 --5-- 2 --2-- 3 with 4 apart, each vertex being its own label at first.
use Rattle.std.specs.Prelude.{ℕ, ◌==◌, if◌then◌else◌}
use Rattle.pg_base.specs.declared.edges.Edge.{Edge}
use Rattle.pg_base.specs.Examples.{edge}

-- Label 1 hooks to 2, and 2 and 3 hook to each other.
abbrev pub hook : ℕ → ℕ
hook l = if l == 1 then 2 else if l == 2 then 3 else if l == 3 then 2 else l

abbrev pub win : ℕ → Edge
win l = if l == 1 then edge 1 2 5 else edge 2 3 2
