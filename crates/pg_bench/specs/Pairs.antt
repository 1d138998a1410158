-- A fact of each entry of a list and the entry of another list in its place.
use Rattle.std.specs.Prelude.{◌≡◌, ℕ, List, slice_get, Some}

abbrev pub EachPair : {X Y : Type 0} → (X → Y → Type 0) → List X → List Y → Type 0
EachPair {X} {Y} Q xs ys = (place : ℕ) (x : X) (y : Y) → slice_get xs place ≡ Some x → slice_get ys place ≡ Some y → Q x y
