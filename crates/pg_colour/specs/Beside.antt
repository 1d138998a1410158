-- In which slots the arcs of a part end, one for each arc, as facts that a struct can keep.
use Rattle.std.specs.Prelude.{◌≡◌, ◌≢◌, ℕ, ◌<◌, List, Option, Some, None, length, slice_get}
use Rattle.pg_adj.specs.declared.arcs.Arc.{Arc}
use Rattle.pg_adj.specs.declared.arcs.Ghost.{Ghost}
use Rattle.pg_adj.specs.Portions.{Portion}

-- Beside each arc stands the slot of the ghost that it leads to, or none where it leads to no ghost.
pub record AreBeside (part : Portion) (slots : List (Option ℕ)) : Type 0 where
  pub each : length slots ≡ length part.arcs
  pub within : (k slot : ℕ) → slice_get slots k ≡ Some (Some slot) → slot < length part.ghosts
  pub leads : (k slot : ℕ) (arc : Arc) (held : Ghost) → slice_get slots k ≡ Some (Some slot) → slice_get part.arcs k ≡ Some arc
      → slice_get part.ghosts slot ≡ Some held → held.vertex.0 ≡ arc.to.0
  pub apart : (k slot : ℕ) (arc : Arc) (held : Ghost) → slice_get slots k ≡ Some None → slice_get part.arcs k ≡ Some arc
      → slice_get part.ghosts slot ≡ Some held → held.vertex.0 ≢ arc.to.0
