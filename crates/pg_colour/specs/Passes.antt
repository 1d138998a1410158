-- A pass of one rank: it goes through a list of its own places and gives each the least colour that no neighbour has
-- then. A cell holds a colour, or NO_COLOUR. These are pg_proper's passes, over a part's places and slots in place of
-- vertices.
-- Source: after Boman, Bozdağ, Catalyurek, Gebremedhin and Manne, A scalable parallel graph coloring algorithm for
-- distributed memory computers (Euro-Par 2005). That of two ends of one colour the greater one is coloured again is
-- this project's choice.
use Rattle.std.specs.Prelude.{◌≡◌, ◌⊎◌, ◌==◌, cond, ℕ, ◌<◌, List, [], ◌∷◌, slice_index, Contains}
use Rattle.pg_base.specs.Keyed.{row_of}
use Rattle.pg_adj.specs.declared.arcs.Arc.{Arc}
use Rattle.pg_adj.specs.Portions.{Portion}
use Rattle.pg_cells.specs.States.{IsGhost}
use Rattle.pg_colour.specs.declared.TheConstants.{NO_COLOUR}

-- What cells hold: those of the own places, or those of the ghosts' slots.
abbrev pub Cells : Type 0
Cells = ℕ → ℕ

abbrev pub no_colours : Cells
no_colours = λ k. NO_COLOUR

-- The arcs of an own place.
abbrev pub row : Portion → ℕ → List Arc
row part place = row_of part.bounds part.arcs place

-- The arc ends at an own place with colour d, or at a ghost that is seen with colour d.
abbrev pub EndsAt : Portion → Cells → Cells → Arc → ℕ → Type 0
EndsAt part own seen arc d =
    ((arc.home.0 ≡ part.rank) × (own arc.place ≡ d)) ⊎ ((slot : ℕ) × IsGhost part arc.to.0 slot × (seen slot ≡ d))

-- A neighbour of the vertex at a place has colour d.
pub record IsTaken (part : Portion) (own seen : Cells) (place d : ℕ) : Type 0 where
  pub arc : Arc
  pub among : Contains (row part place) arc
  pub ends : EndsAt part own seen arc d

-- c is a colour, and the least that no neighbour of the vertex at a place has.
pub record IsLeastFree (part : Portion) (own seen : Cells) (place c : ℕ) : Type 0 where
  pub colour : c < NO_COLOUR
  pub free : IsTaken part own seen place c → ⊥
  pub least : (d : ℕ) → d < c → IsTaken part own seen place d

-- The cells once the one at k holds x.
abbrev pub with_cell : Cells → ℕ → ℕ → Cells
with_cell cells k x = λ i. cond (i == k) x (cells i)

-- Going through the list of places leads from the own cells before to those after, while the ghosts are seen like this.
abbrev pub Passes : Portion → Cells → List ℕ → Cells → Cells → Type 0
Passes part seen [] before after = (place : ℕ) → after place ≡ before place
Passes part seen (place ∷ list) before after =
    (c : ℕ) × IsLeastFree part before seen place c × Passes part seen list (with_cell before place c) after

-- The vertex at a place has a lesser neighbour of another rank that is seen with the same colour. The lesser end keeps
-- its colour.
pub record IsClash (part : Portion) (own seen : Cells) (place : ℕ) : Type 0 where
  pub arc : Arc
  pub slot : ℕ
  pub among : Contains (row part place) arc
  pub ghost_at : IsGhost part arc.to.0 slot
  pub lesser : arc.to.0 < slice_index part.vertices place
  pub same : seen slot ≡ own place
