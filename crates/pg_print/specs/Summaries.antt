-- The text of the summary of a grid.
-- Source: docs/FORMAT.md, the texts of answers.
use Rattle.std.specs.Prelude.{ℕ, List, [], ◌∷◌, codes}
use Rattle.std.specs.List.{flat_map}
use Rattle.pg_print.specs.Lines.{number_line, pair_line, triple_line}
use Rattle.pg_print.specs.declared.summaries.Summary.{Summary}
use Rattle.pg_print.specs.declared.summaries.Tally.{Tally}

abbrev pub tally_line : List ℕ → Tally → List ℕ
tally_line name t = triple_line name t.count t.far t.sum

abbrev pub summary_lines : Summary → List (List ℕ)
summary_lines s =
    number_line (codes "vertices") s.vertices
    ∷ number_line (codes "edges") s.edges
    ∷ tally_line (codes "hops") s.hops
    ∷ tally_line (codes "weights") s.weights
    ∷ number_line (codes "components") s.components
    ∷ pair_line (codes "forest") s.forest s.total
    ∷ number_line (codes "clashes") s.clashes
    ∷ []

abbrev pub summary_text : Summary → List ℕ
summary_text s = flat_map (λ line. line) (summary_lines s)
