-- Edges that are met in the order of cursors.
use Rattle.std.specs.Prelude.{◌≡◌, ◌<◌, ◌⊎◌, ℕ, List, length, slice_index, slice_index_or, All, Contains}
use Rattle.pg_base.specs.declared.edges.Edge.{Edge}
use Rattle.pg_base.specs.Graph.{Arc, backward}

-- Each of these is the edge of an arc in its backward direction, or none.
abbrev pub AreBackOrBlank : List Arc → List Edge → Type 0
AreBackOrBlank arcs edges = All (λ e. (e.u ≡ 0) ⊎ Contains arcs (backward e)) edges

-- The edge stands at the cursor of its lesser end.
pub record IsAtCursor (e : Edge) (edges : List Edge) (cursors : List ℕ) : Type 0 where
  pub within : slice_index cursors e.u < length edges
  pub same : (d : Edge) → slice_index_or edges (slice_index cursors e.u) d ≡ e
