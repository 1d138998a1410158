-- Chosen edges as marks, one for each edge of the graph.
use Rattle.std.specs.Prelude.{◌≡◌, ◌⊎◌, ◌↔◌, ℕ, ◌+◌, ◌<◌, Bool, true, false, List, [], ◌∷◌, length, slice_index_or, if◌then◌else◌, Contains}

-- The places that are marked, ascending, where the first place has this number.
abbrev pub marked_from : ℕ → List Bool → List ℕ
marked_from i [] = []
marked_from i (is ∷ marks) = if is then i ∷ marked_from (i + 1) marks else marked_from (i + 1) marks

abbrev pub marked : List Bool → List ℕ
marked marks = marked_from 0 marks

-- The places that were marked, and those of the list.
abbrev pub AreMarked : List ℕ → List Bool → List Bool → Type 0
AreMarked list old new = (i : ℕ) → i < length old → (slice_index_or new i false ≡ true) ↔ ((slice_index_or old i false ≡ true) ⊎ Contains list i)
