-- Which ranks hold a vertex as a ghost.
use Rattle.std.specs.Prelude.{ℕ, ◌+◌, List, [], ◌∷◌, ◌++◌}
use Rattle.pg_adj.specs.declared.arcs.Ghost.{Ghost}
use Rattle.pg_adj.specs.declared.arcs.Holder.{Holder}
use Rattle.pg_base.specs.Keyed.{Keyed}

-- Each ghost's vertex with the rank that holds it and its slot there, for a rank's ghosts from this slot on.
abbrev pub holdings_of : ℕ → ℕ → List Ghost → List (Keyed Holder)
holdings_of rank slot [] = []
holdings_of rank slot (g ∷ ghosts) =
    record { key = g.vertex.0; item = record { rank = record { 0 = rank }; slot = slot } } ∷ holdings_of rank (slot + 1) ghosts

-- The same for the ghosts of each rank, from this rank on.
abbrev pub holdings : ℕ → List (List Ghost) → List (Keyed Holder)
holdings rank [] = []
holdings rank (ghosts ∷ lists) = holdings_of rank 0 ghosts ++ holdings (rank + 1) lists
