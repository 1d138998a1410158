-- The hooks of a phase as they lie in memory, by label: a target and an edge.
use Rattle.std.specs.Prelude.{◌≡◌, ◌≢◌, ◌==◌, ◌||◌, not, ℕ, ◌<◌, ◌%◌, Option, Some, None, List, length, slice_index, if◌then◌else◌, Contains}
use Rattle.pg_base.specs.declared.TheConstants.{MAX_EDGES}
use Rattle.pg_boruvka.specs.declared.TheConstants.{NO_KEY}
use Rattle.pg_boruvka.specs.declared.hooks.TheConstants.{NO_EDGE}
use Rattle.pg_boruvka.specs.declared.messages.Hook.{Hook}

-- The hook that is noted at a label.
abbrev pub noted : List ℕ → List ℕ → ℕ → Option Hook
noted targets edges l = if slice_index edges l == NO_EDGE then None else Some (record { source = l; target = slice_index targets l; edge = slice_index edges l })

-- An edge of so many, where there is one.
abbrev pub IsEdgeOrNone : ℕ → ℕ → Type 0
IsEdgeOrNone edges e = e ≢ NO_EDGE → e < edges

-- A label without a hook is its own target.
abbrev pub AreStill : List ℕ → List ℕ → Type 0
AreStill targets edges = (l : ℕ) → l < length targets → slice_index edges l ≡ NO_EDGE → slice_index targets l ≡ l

-- No label is hooked.
pub record AreUnhooked (targets edges : List ℕ) : Type 0 where
  pub still : (l : ℕ) → l < length targets → slice_index targets l ≡ l
  pub none : (l : ℕ) → l < length edges → slice_index edges l ≡ NO_EDGE

-- The hook was noted, where its source had none; no other label's hook changed.
pub record IsNoted (h : Hook) (targets edges new_targets new_edges : List ℕ) : Type 0 where
  pub first : slice_index edges h.source ≡ NO_EDGE → noted new_targets new_edges h.source ≡ Some h
  pub later : slice_index edges h.source ≢ NO_EDGE → noted new_targets new_edges h.source ≡ noted targets edges h.source
  pub others : (l : ℕ) → l ≢ h.source → noted new_targets new_edges l ≡ noted targets edges l

-- The hook of a label whose own key has won, by that key, its label across, and the winner.
abbrev pub own_hook_by : ℕ → ℕ → ℕ → ℕ → Option Hook
own_hook_by l key target win = if (key == NO_KEY) || not (win == key) then None else Some (record { source = l; target = target; edge = key % MAX_EDGES })

abbrev pub own_hook_at : List ℕ → List ℕ → List ℕ → ℕ → Option Hook
own_hook_at keys across winners l = own_hook_by l (slice_index keys l) (slice_index across l) (slice_index winners l)
