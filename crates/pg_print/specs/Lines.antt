-- Lines of a name and numbers, each of which has a blank before it.
-- Source: docs/FORMAT.md, the texts of answers.
use Rattle.std.specs.Prelude.{ℕ, List, [], ◌∷◌, ◌++◌, decimal}

abbrev pub number_line : List ℕ → ℕ → List ℕ
number_line name number = name ++ 32 ∷ decimal number ++ 10 ∷ []

abbrev pub pair_line : List ℕ → ℕ → ℕ → List ℕ
pair_line name first second = name ++ 32 ∷ decimal first ++ 32 ∷ decimal second ++ 10 ∷ []

abbrev pub triple_line : List ℕ → ℕ → ℕ → ℕ → List ℕ
triple_line name first second third = name ++ 32 ∷ decimal first ++ 32 ∷ decimal second ++ 32 ∷ decimal third ++ 10 ∷ []
