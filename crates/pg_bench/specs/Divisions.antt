-- The parts of a divided graph, by rank, and the edges that their arcs are of.
use Rattle.std.specs.Prelude.{◌≡◌, ℕ, ◌<◌, List, length, All}
use Rattle.pg_group.specs.Entries.{Each}
use Rattle.pg_adj.specs.Portions.{Portion}
use Rattle.pg_boruvka.specs.Portions.{part_of}

-- The part in each place is that of this rank, of as many as there are parts.
abbrev pub AreInOrder : List Portion → Type 0
AreInOrder parts = Each (λ rank p. (p.rank ≡ rank) × (p.ranks ≡ length parts)) parts

-- Each arc's edge is one of so many.
abbrev pub HasEdgesBelow : ℕ → Portion → Type 0
HasEdgesBelow edges p = All (λ a. a.edge < edges) (part_of edges p).arcs
