-- How far a walk over the lines of vertices has come, which holds their arcs against the edges.
use Rattle.std.specs.Prelude.{◌≡◌, ◌≢◌, ℕ, ◌<◌, ◌≤◌, ◌⊎◌, true, List, length, slice_index_or, slice_range, All, Contains}
use Rattle.pg_base.specs.declared.edges.Edge.{Edge}
use Rattle.pg_base.specs.Graph.{Arc, forward}
use Rattle.pg_metis.specs.declared.pairing.Mark.{Mark}
use Rattle.pg_metis.specs.Marks.{TakeMarks, is_owed, mark_at}
use Rattle.pg_metis.specs.Mirrors.{forth_edges, turned}

-- The elements of this key, of a list in the order of keys, stand from begin to end.
pub record IsRun {X : Type 0} (key : X → ℕ) (xs : List X) (k begin end : ℕ) : Type 0 where
  pub rises : begin ≤ end
  pub within : end ≤ length xs
  pub run : All (λ x. key x ≡ k) (slice_range xs begin end)
  pub next : (d : X) → end < length xs → key (slice_index_or xs end d) ≢ k

-- The arcs from u stand from begin to end, and took their marks.
pub record IsPaired (u : ℕ) (arcs : List Arc) (begin end : ℕ) (old new : List Mark) : Type 0 where
  pub line : IsRun (λ a. a.from) arcs u begin end
  pub marks : TakeMarks (slice_range arcs begin end) old new

-- The arcs from u to greater vertices are the edges from u, in their order.
pub record IsInOrder (u : ℕ) (arcs : List Arc) (edges : List Edge) (first_arc first_edge next_arc next_edge : ℕ) : Type 0 where
  pub line : IsRun (λ a. a.from) arcs u first_arc next_arc
  pub row : IsRun (λ e. e.u) edges u first_edge next_edge
  pub same : slice_range edges first_edge next_edge ≡ forth_edges (slice_range arcs first_arc next_arc)

-- Before this place keys are less than k, and from there on they are not.
pub record IsStart {X : Type 0} (key : X → ℕ) (xs : List X) (k begin : ℕ) : Type 0 where
  pub within : begin ≤ length xs
  pub before : (i : ℕ) (d : X) → i < begin → key (slice_index_or xs i d) < k
  pub after : (i : ℕ) (d : X) → begin ≤ i → i < length xs → k ≤ key (slice_index_or xs i d)

-- An edge to v from a vertex before u has no arc in its own direction.
abbrev pub IsLeft : List Arc → List Edge → ℕ → ℕ → Type 0
IsLeft arcs edges u v = (e : Edge) × Contains edges e × (e.v ≡ v) × (e.u < u) × (Contains arcs (forward e) → ⊥)

-- The lines before that of u were looked at: their arcs have equal mirrors, and a vertex is owed exactly where an edge
-- from a vertex before u is left.
pub record IsSettled (u : ℕ) (arcs : List Arc) (edges : List Edge) (arc edge : ℕ) (marks : List Mark) : Type 0 where
  pub arcs_start : IsStart (λ a. a.from) arcs u arc
  pub edges_start : IsStart (λ e. e.u) edges u edge
  pub earlier : (v : ℕ) (d : Mark) → 1 ≤ v → v ≤ length marks → (mark_at marks v d).vertex < u
  pub owed : (v : ℕ) (d : Mark) → 1 ≤ v → v ≤ length marks → is_owed (mark_at marks v d) ≡ true → IsLeft arcs edges u v
  pub each : (e : Edge) → Contains edges e → e.u < u → Contains arcs (forward e) ⊎ ((d : Mark) → is_owed (mark_at marks e.v d) ≡ true)
  pub mirrored : (a : Arc) → Contains arcs a → a.from < u → Contains arcs (turned a)
