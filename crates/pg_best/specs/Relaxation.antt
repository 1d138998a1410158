-- A whole run of relaxations on all ranks, and what its cells are.
use Rattle.std.specs.Prelude.{◌≡◌, ℕ, ◌^◌, ◌<◌, ◌≤◌, Bool, true, false, Option, List, All}
use Rattle.pg_base.specs.declared.TheConstants.{MAX_VERTICES}
use Rattle.pg_base.specs.Graph.{Arc}
use Rattle.pg_group.specs.declared.messages.Body.{Body}
use Rattle.pg_group.specs.Ranked.{IsOther, list_at}
use Rattle.pg_group.specs.Rounds.{marks, ends_with_mark}
use Rattle.pg_label.specs.declared.values.Value.{Value}
use Rattle.pg_best.specs.declared.offers.Offer.{Offer}
use Rattle.pg_best.specs.Best.{Label, Best}
use Rattle.pg_best.specs.Parts.{IsVertex, LocalArc, Part, IsDivided}
use Rattle.pg_best.specs.LocalRelax.{LocalRelax, IsMarked}
use Rattle.pg_best.specs.Relaxed.{Relaxed}

-- The arc joins vertices.
pub record IsArc (n : ℕ) (a : Arc) : Type 0 where
  pub from : IsVertex n a.from
  pub to : IsVertex n a.to

pub record Run : Type 0 where
  pub n : ℕ
  pub ranks : ℕ
  pub arcs : List Arc
  pub owner : ℕ → ℕ
  pub place : ℕ → ℕ
  pub parts : ℕ → Part
  pub label : Label
  pub handled : ℕ → List (List (Body Offer))
  pub sent : ℕ → List (List (Body Offer))
  pub cell : ℕ → ℕ → Option Value
  pub due : ℕ → LocalArc → Bool
  pub last : ℕ → ℕ

-- All that was sent was handled, and each rank keeps its bounds, relaxed arcs and support.
pub record IsRun (run : Run) : Type 0 where
  pub size : run.n ≤ MAX_VERTICES
  pub arcs : All (IsArc run.n) run.arcs
  pub costs : All (λ a. run.label.add a.weight < 2 ^ 32) run.arcs
  pub divided : IsDivided run.n run.ranks run.arcs run.owner run.place run.parts
  pub taken : (r s : ℕ) → r < run.ranks → IsOther r run.ranks s → list_at (run.handled s) r ≡ list_at (run.sent r) s
  pub kept : (r : ℕ) → r < run.ranks → LocalRelax run.label (run.parts r) (run.handled r) (run.sent r) (run.cell r) (run.due r)

-- A mark ends each of as many rounds of each list, and each rank keeps what it says of its end.
pub record HasEnded (run : Run) : Type 0 where
  pub rounds : ℕ
  pub marked : (r s : ℕ) → r < run.ranks → IsOther r run.ranks s → marks (list_at (run.sent r) s) ≡ rounds
  pub last : (r s : ℕ) → r < run.ranks → IsOther r run.ranks s → ends_with_mark (list_at (run.sent r) s) ≡ true
  pub kept : (r : ℕ) → r < run.ranks → IsMarked (run.parts r) (run.handled r) (run.sent r) (run.due r) (run.last r)

-- No arc is due.
abbrev pub IsIdle : Run → Type 0
IsIdle run = (r : ℕ) (a : LocalArc) → r < run.ranks → run.due r a ≡ false

-- A run by rounds that has ended is idle.
abbrev pub EndIsIdle : Type 0
EndIsIdle = (run : Run) → IsRun run → HasEnded run → IsIdle run

-- In an idle run each cell is the least value over walks.
abbrev pub IdleIsBest : Type 0
IdleIsBest = (run : Run) → IsRun run → IsIdle run → (v : ℕ) → IsVertex run.n v → Best run.label run.arcs v (run.cell (run.owner v) (run.place v))

-- In an idle run every arc between two ranks is relaxed.
abbrev pub IdleIsRelaxed : Type 0
IdleIsRelaxed = (run : Run) → IsRun run → IsIdle run
    → Relaxed run.label run.arcs run.owner run.place (λ v. run.cell (run.owner v) (run.place v)) (λ r s. list_at (run.sent r) s)
