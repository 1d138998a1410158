-- What the line of a vertex is taken apart into.
use Rattle.std.specs.Prelude.{◌≡◌, ℕ, ◌-◌, ◌≤◌, Bool, true, false, ◌==◌, Option, Some, None, List, [], ◌∷◌, ◌++◌, length, slice_index, All}
use Rattle.std.specs.List.{list_any}
use Rattle.pg_base.specs.Graph.{Arc}
use Rattle.pg_text.specs.Text.{is_number, decimal_value}
use Rattle.pg_metis.specs.declared.faults.Kind.{Kind}
use Rattle.pg_metis.specs.declared.faults.Kind.TheVariants.{ShortLine}
use Rattle.pg_metis.specs.File.{plain_arc}
use Rattle.pg_metis.specs.Fault.{weight_fault}

-- So many words, which are numbers, stand before those that are left.
pub record Skips (many : ℕ) (words left : List (List ℕ)) : Type 0 where
  pub passed : List (List ℕ)
  pub split : words ≡ passed ++ left
  pub count : length passed ≡ many
  pub numbers : All (λ word. is_number word ≡ true) passed

-- No vertex has a stamp above v, and those with the stamp v are the neighbours that the line of v named so far.
pub record AreStamps (v : ℕ) (earlier stamps : List ℕ) : Type 0 where
  pub early : All (λ stamp. stamp ≤ v) stamps
  pub named : (x : ℕ) → 1 ≤ x → x ≤ length stamps → (slice_index stamps (x - 1) == v) ≡ list_any (λ other. other == x) earlier

-- What is wrong with the weight that these words begin with, where edges have weights.
abbrev pub edge_weight_fault : Bool → List (List ℕ) → Option Kind
edge_weight_fault false words = None
edge_weight_fault true [] = Some ShortLine
edge_weight_fault true (word ∷ rest) = weight_fault word

-- An edge's weight was taken where edges have weights, and is 1 where they have none.
abbrev pub TakesWeight : Bool → List (List ℕ) → ℕ → List (List ℕ) → Type 0
TakesWeight false words weight left = (weight ≡ 1) × (left ≡ words)
TakesWeight true words weight left = (word : List ℕ) × (words ≡ word ∷ left) × (weight_fault word ≡ None) × (weight ≡ decimal_value word)

-- The arcs from v that words name which are numbers: its neighbours, each with its edge's weight where edges have weights.
abbrev pub arcs_by : Bool → ℕ → List (List ℕ) → List Arc
arcs_by weighted v [] = []
arcs_by false v (word ∷ rest) = plain_arc v (decimal_value word) ∷ arcs_by false v rest
arcs_by true v (word ∷ []) = []
arcs_by true v (word ∷ weight ∷ rest) = record { from = v; to = decimal_value word; weight = decimal_value weight } ∷ arcs_by true v rest
