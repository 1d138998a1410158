-- The stamps of colours.
use Rattle.std.specs.Prelude.{◌≡◌, ℕ, Some, List, slice_get}

-- The colour has this stamp.
abbrev pub IsMarked : List ℕ → ℕ → ℕ → Type 0
IsMarked stamps stamp colour = slice_get stamps colour ≡ Some stamp
