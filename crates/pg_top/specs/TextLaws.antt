-- What follows from the definition of what a run prints.
use Rattle.std.specs.Prelude.{◌≡◌, ℕ, List}
use Rattle.pg_base.specs.Graph.{Graph}
use Rattle.pg_words.specs.declared.plans.Algorithm.{Algorithm}
use Rattle.pg_words.specs.declared.plans.Algorithm.TheVariants.{Colour}
use Rattle.pg_top.specs.Text.{IsAnswerText}

-- An algorithm, a graph and a source have at most one text, the colours on one rank. So no other text depends on ranks, and none
-- on threads, owners, buckets or lanes.
abbrev pub TextIsOne : Type 0
TextIsOne = (algorithm : Algorithm) (m n source : ℕ) (g : Graph) (a b : List ℕ) → (algorithm ≡ Colour → (m ≡ 1) × (n ≡ 1))
    → IsAnswerText algorithm m source g a → IsAnswerText algorithm n source g b → a ≡ b
