-- The marks that edges leave at their greater ends, and that arcs take away.
use Rattle.std.specs.Prelude.{◌≡◌, ◌≢◌, ◌==◌, ℕ, ◌-◌, ◌<◌, ◌≤◌, Bool, ◌||◌, not, List, slice_index_or, slice_set, All}
use Rattle.pg_base.specs.declared.edges.Edge.{Edge}
use Rattle.pg_base.specs.Graph.{Arc}
use Rattle.pg_metis.specs.declared.pairing.Mark.{Mark}

-- An edge from a lesser vertex was met by no arc.
abbrev pub is_owed : Mark → Bool
is_owed mark = mark.missed || not (mark.vertex == 0)

-- The mark that an edge leaves.
abbrev pub marked_by : Edge → Mark → Mark
marked_by e mark = record { vertex = e.u; weight = e.w; missed = is_owed mark }

-- The mark after an arc met its edge.
abbrev pub met : Mark → Mark
met mark = record { vertex = 0; weight = mark.weight; missed = mark.missed }

-- The mark is of an edge that has this arc as a direction.
pub record IsMarkOf (a : Arc) (mark : Mark) : Type 0 where
  pub vertex : mark.vertex ≡ a.from
  pub weight : mark.weight ≡ a.weight

-- The mark of a vertex.
abbrev pub mark_at : List Mark → ℕ → Mark → Mark
mark_at marks vertex other = slice_index_or marks (vertex - 1) other

-- These edges left marks at their greater ends, and there alone.
pub record LeaveMarks (row : List Edge) (old new : List Mark) : Type 0 where
  pub each : All (λ e. (d : Mark) → mark_at new e.v d ≡ marked_by e (mark_at old e.v d)) row
  pub others : (v : ℕ) (d : Mark) → 1 ≤ v → All (λ e. e.v ≢ v) row → mark_at new v d ≡ mark_at old v d

-- The arc met a mark, if it goes to a greater vertex, and took it away.
pub record Meets (a : Arc) (old new : List Mark) : Type 0 where
  pub own : a.from < a.to → (d : Mark) → IsMarkOf a (mark_at old a.to d)
  pub taken : a.from < a.to → (d : Mark) → new ≡ slice_set old (a.to - 1) (met (mark_at old a.to d))
  pub lesser : a.to < a.from → new ≡ old

-- The arc goes to a greater vertex, which has no mark of it.
pub record MeetsNone (a : Arc) (marks : List Mark) : Type 0 where
  pub greater : a.from < a.to
  pub none : (d : Mark) → IsMarkOf a (mark_at marks a.to d) → ⊥

-- Each of these arcs met its own mark, and no other mark was taken away.
pub record TakeMarks (line : List Arc) (old new : List Mark) : Type 0 where
  pub own : All (λ a. a.from < a.to → (d : Mark) → IsMarkOf a (mark_at old a.to d)) line
  pub each : All (λ a. a.from < a.to → (d : Mark) → mark_at new a.to d ≡ met (mark_at old a.to d)) line
  pub others : (v : ℕ) (d : Mark) → 1 ≤ v → All (λ a. a.from < a.to → a.to ≢ v) line → mark_at new v d ≡ mark_at old v d
