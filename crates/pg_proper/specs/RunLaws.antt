-- What the colours of a run are, and that each run ends.
-- Source: Boman, Bozdağ, Catalyurek, Gebremedhin and Manne, A scalable parallel graph coloring algorithm for
-- distributed memory computers (Euro-Par 2005).
use Rattle.std.specs.Prelude.{◌≡◌, ℕ, ◌<◌, ◌≤◌}
use Rattle.pg_base.specs.Colouring.{IsProper, IsFirstFit}
use Rattle.pg_proper.specs.Passes.{AreApart, HasColour}
use Rattle.pg_proper.specs.Runs.{Run, IsRun, HasEnded, IsAnswer}

-- After each pass no two own neighbours have one colour.
abbrev pub OwnStayApart : Type 0
OwnStayApart = (run : Run) (last r j : ℕ) → IsRun run last → r < run.ranks → j ≤ last
    → AreApart run.graph.edges (run.own r) (run.colours r j)

-- After the last pass each vertex has a colour, also where the run hasn't ended.
abbrev pub VerticesAreColoured : Type 0
VerticesAreColoured = (run : Run) (last : ℕ) → IsRun run last
    → (v : ℕ) → 1 ≤ v → v ≤ run.graph.n → HasColour (run.colours (run.owner v) last) v

abbrev pub EndIsProper : Type 0
EndIsProper = (run : Run) (last : ℕ) (colour : ℕ → ℕ) → IsRun run last → HasEnded run last → IsAnswer run last colour
    → IsProper run.graph colour

abbrev pub OneRankIsFirstFit : Type 0
OneRankIsFirstFit = (run : Run) (last : ℕ) (colour : ℕ → ℕ) → IsRun run last → run.ranks ≡ 1 → IsAnswer run last colour
    → IsFirstFit run.graph colour

-- Vertex v is coloured for the last time in pass v - 1 at the latest, so that all lists are empty from pass n on.
abbrev pub EndComes : Type 0
EndComes = (run : Run) (last : ℕ) → IsRun run last → run.graph.n ≤ last → HasEnded run last
