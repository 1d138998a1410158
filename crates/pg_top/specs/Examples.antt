-- A graph beside the path of graph files.
use Rattle.std.specs.Prelude.{[], ◌∷◌}
use Rattle.pg_base.specs.Graph.{Graph}
use Rattle.pg_base.specs.Examples.{edge, graph}

-- 1 --1-- 2 --1-- 3     4
abbrev pub path_and_one : Graph
path_and_one = graph 4 (edge 1 2 1 ∷ edge 2 3 1 ∷ [])
