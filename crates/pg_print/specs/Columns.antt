-- The text of a column of answers.
-- Source: docs/FORMAT.md, the texts of answers.
use Rattle.std.specs.Prelude.{ℕ, Option, Some, None, List, [], ◌∷◌, ◌++◌, decimal}
use Rattle.std.specs.List.{flat_map}

-- A number in decimal, or a hyphen where there is none, and a newline.
abbrev pub answer_line : Option ℕ → List ℕ
answer_line None = 45 ∷ 10 ∷ []
answer_line (Some n) = decimal n ++ 10 ∷ []

abbrev pub column_text : List (Option ℕ) → List ℕ
column_text column = flat_map answer_line column
