-- Clashes arc by arc.
use Rattle.std.specs.Prelude.{◌≡◌, ℕ, ◌<◌, slice_index}
use Rattle.pg_adj.specs.declared.arcs.Arc.{Arc}
use Rattle.pg_adj.specs.Portions.{Portion}
use Rattle.pg_cells.specs.States.{IsGhost}
use Rattle.pg_colour.specs.Passes.{Cells}

-- The arc leads from the place to a lesser vertex, the ghost of this slot, that is seen with the place's colour.
pub record IsClashOver (part : Portion) (own seen : Cells) (place : ℕ) (arc : Arc) (slot : ℕ) : Type 0 where
  pub held : IsGhost part arc.to.0 slot
  pub lesser : arc.to.0 < slice_index part.vertices place
  pub same : seen slot ≡ own place
