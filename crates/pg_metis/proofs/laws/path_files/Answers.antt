-- The lines of each text, read off.
use Rattle.std.proofs.Common.{ℕ, List, [], ◌∷◌, false, codes, refl, arith, rules}
use Rattle.std.proofs.lemmas.List.Sorted.{IsPermutation-reverse}
use Rattle.pg_base.specs.Graph.{IsGraph}
use Rattle.pg_base.specs.Examples.{arc}
use Rattle.pg_text.specs.Text.{lines, words, number, numbers, decimal_value}
use Rattle.pg_metis.specs.File.{Format, IsLineOf, header_of, line_arcs}
use Rattle.pg_metis.specs.Examples.{path, path_text, turned_path_text, commented_text, formatted_text}
use Rattle.pg_metis.proofs.LinesInOrder.{file_of_lines, line_in_order}
use Rattle.pg_metis.proofs.laws.path_files.Goals as goal

abbrev plain : Format
plain = record { sizes = false; vertex_weights = 0; edge_weights = false }

path_is_graph : IsGraph path
path_is_graph = search rules

line_1 : IsLineOf plain path 1 (codes "2")
unfolding line_arcs words number numbers decimal_value
line_1 = line_in_order plain path 1 (codes "2") refl

line_2 : IsLineOf plain path 2 (codes "1 3")
unfolding line_arcs words number numbers decimal_value
line_2 = line_in_order plain path 2 (codes "1 3") refl

turned_line_2 : IsLineOf plain path 2 (codes "3 1")
unfolding line_arcs words number numbers decimal_value
turned_line_2 = record { arcs = arc 2 3 1 ∷ arc 2 1 1 ∷ []; named = refl; order = IsPermutation-reverse (arc 2 3 1 ∷ arc 2 1 1 ∷ []) }

line_3 : IsLineOf plain path 3 (codes "2")
unfolding line_arcs words number numbers decimal_value
line_3 = line_in_order plain path 3 (codes "2") refl

abbrev path_lines : List (List ℕ)
path_lines = codes "2" ∷ codes "1 3" ∷ codes "2" ∷ []

pub returns-clause-ascending : goal.returns-clause-ascending
unfolding lines words number decimal_value header_of
returns-clause-ascending c = file_of_lines path_text path plain (codes "3 2") path_lines (omega arith) path_is_graph refl refl refl (line_1, (line_2, (line_3, tt)))

pub returns-clause-turned : goal.returns-clause-turned
unfolding lines words number decimal_value header_of
returns-clause-turned c =
    file_of_lines turned_path_text path plain (codes "3 2") (codes "2" ∷ codes "3 1" ∷ codes "2" ∷ []) (omega arith) path_is_graph refl refl refl (line_1, (turned_line_2, (line_3, tt)))

pub returns-clause-commented : goal.returns-clause-commented
unfolding lines words number decimal_value header_of
returns-clause-commented c = file_of_lines commented_text path plain (codes "3 2") path_lines (omega arith) path_is_graph refl refl refl (line_1, (line_2, (line_3, tt)))

pub returns-clause-formatted : goal.returns-clause-formatted
unfolding lines words number decimal_value header_of
returns-clause-formatted c = file_of_lines formatted_text path plain (codes "3 2 0") path_lines (omega arith) path_is_graph refl refl refl (line_1, (line_2, (line_3, tt)))
