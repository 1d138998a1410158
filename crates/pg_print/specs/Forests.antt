-- The text of a forest.
-- Source: docs/FORMAT.md, the texts of answers.
use Rattle.std.specs.Prelude.{ℕ, List, ◌++◌, codes, decimal, map, slice_index_or}
use Rattle.std.specs.List.{flat_map}
use Rattle.pg_base.specs.declared.edges.Edge.{Edge}
use Rattle.pg_base.specs.Forest.{total_weight}
use Rattle.pg_print.specs.Lines.{number_line, pair_line}

-- The lesser end, the other end and the weight.
abbrev pub edge_line : Edge → List ℕ
edge_line e = pair_line (decimal e.u) e.v e.w

-- A line for each edge, and then the sum of their weights.
abbrev pub forest_text : List Edge → List ℕ
forest_text tree = flat_map edge_line tree ++ number_line (codes "total") (total_weight tree)

-- Stands where no edge has the index.
abbrev pub no_edge : Edge
no_edge = record { u = 0; v = 0; w = 0 }

-- The edges with these indices, in this order.
abbrev pub edges_at : List Edge → List ℕ → List Edge
edges_at edges indices = map (λ i. slice_index_or edges i no_edge) indices
