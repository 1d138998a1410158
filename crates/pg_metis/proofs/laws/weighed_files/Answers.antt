-- The lines of each text, read off.
use Rattle.std.proofs.Common.{[], ◌∷◌, true, false, codes, refl, arith, rules}
use Rattle.pg_base.specs.Graph.{IsGraph}
use Rattle.pg_text.specs.Text.{lines, words, number, numbers, decimal_value}
use Rattle.pg_metis.specs.File.{Format, header_of, line_arcs}
use Rattle.pg_metis.specs.Examples.{heavy, heavy_text, pair, sized_text, heavy_pair, uncounted_text}
use Rattle.pg_metis.proofs.LinesInOrder.{AreLines, file_of_lines, line_in_order}
use Rattle.pg_metis.proofs.laws.weighed_files.Goals as goal

abbrev two_weights : Format
two_weights = record { sizes = false; vertex_weights = 2; edge_weights = true }

heavy_is_graph : IsGraph heavy
heavy_is_graph = search rules

heavy_lines : AreLines two_weights heavy 1 (codes "7 0 2 9" ∷ codes "1 1 1 9" ∷ codes "4 4" ∷ [])
unfolding line_arcs words number numbers decimal_value
heavy_lines = (
  line_in_order two_weights heavy 1 (codes "7 0 2 9") refl,
  (line_in_order two_weights heavy 2 (codes "1 1 1 9") refl, (line_in_order two_weights heavy 3 (codes "4 4") refl, tt)),
)

pub returns-clause-heavy : goal.returns-clause-heavy
unfolding lines words number decimal_value header_of
returns-clause-heavy c =
    file_of_lines heavy_text heavy two_weights (codes "3 1 011 2") (codes "7 0 2 9" ∷ codes "1 1 1 9" ∷ codes "4 4" ∷ []) (omega arith) heavy_is_graph refl refl refl heavy_lines

abbrev with_sizes : Format
with_sizes = record { sizes = true; vertex_weights = 0; edge_weights = false }

pair_is_graph : IsGraph pair
pair_is_graph = search rules

sized_lines : AreLines with_sizes pair 1 (codes "5 2" ∷ codes "6 1" ∷ [])
unfolding line_arcs words number numbers decimal_value
sized_lines = (line_in_order with_sizes pair 1 (codes "5 2") refl, (line_in_order with_sizes pair 2 (codes "6 1") refl, tt))

pub returns-clause-sized : goal.returns-clause-sized
unfolding lines words number decimal_value header_of
returns-clause-sized c = file_of_lines sized_text pair with_sizes (codes "2 1 100") (codes "5 2" ∷ codes "6 1" ∷ []) (omega arith) pair_is_graph refl refl refl sized_lines

abbrev one_weight : Format
one_weight = record { sizes = false; vertex_weights = 1; edge_weights = true }

heavy_pair_is_graph : IsGraph heavy_pair
heavy_pair_is_graph = search rules

uncounted_lines : AreLines one_weight heavy_pair 1 (codes "4 2 3" ∷ codes "4 1 3" ∷ [])
unfolding line_arcs words number numbers decimal_value
uncounted_lines = (line_in_order one_weight heavy_pair 1 (codes "4 2 3") refl, (line_in_order one_weight heavy_pair 2 (codes "4 1 3") refl, tt))

pub returns-clause-uncounted : goal.returns-clause-uncounted
unfolding lines words number decimal_value header_of
returns-clause-uncounted c =
    file_of_lines uncounted_text heavy_pair one_weight (codes "2 1 11 0") (codes "4 2 3" ∷ codes "4 1 3" ∷ []) (omega arith) heavy_pair_is_graph refl refl refl uncounted_lines
