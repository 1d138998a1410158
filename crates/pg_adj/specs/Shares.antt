-- The shares of all ranks.
use Rattle.std.specs.Prelude.{ℕ, List, map}
use Rattle.pg_adj.specs.declared.arcs.Ghost.{Ghost}
use Rattle.pg_adj.specs.declared.shares.Share.{Share}
use Rattle.pg_base.specs.declared.edges.Edge.{Edge}
use Rattle.pg_dist.specs.Sharing.{Sharing}
use Rattle.pg_adj.specs.Division.{IsShare}

-- The ghosts of each.
abbrev pub ghost_lists : List Share → List (List Ghost)
ghost_lists shares = map (λ s. s.ghosts.items) shares

-- What a share holds is what the rank r has of these edges.
abbrev pub IsShareOf : Sharing → List Edge → ℕ → Share → Type 0
IsShareOf s edges r share = IsShare s edges r share.vertices.items share.rows.bounds.items share.rows.arcs.items share.ghosts.items
