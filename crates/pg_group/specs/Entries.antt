-- Facts of the entries of a list, by place, and lists with one entry more.
use Rattle.std.specs.Prelude.{◌≡◌, ℕ, List, [], ◌∷◌, ◌++◌, slice_get, Some}

-- a fact of each entry and its place
abbrev pub Each : {P : Type 0} → (ℕ → P → Type 0) → List P → Type 0
Each {P} Q ps = (place : ℕ) (p : P) → slice_get ps place ≡ Some p → Q place p

-- each of two lists has one more entry at its end, and the fact holds of the two
abbrev pub GrewTogether : {X Y : Type 0} → (X → Y → Type 0) → List X → List X → List Y → List Y → Type 0
GrewTogether {X} {Y} Q xs more_xs ys more_ys =
    (x : X) × (y : Y) × (more_xs ≡ xs ++ x ∷ []) × (more_ys ≡ ys ++ y ∷ []) × Q x y
