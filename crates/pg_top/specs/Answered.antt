-- The text of what a run answers.
use Rattle.std.specs.Prelude.{ℕ, List}
use Rattle.pg_print.specs.Columns.{column_text}
use Rattle.pg_print.specs.Forests.{edges_at, forest_text}
use Rattle.pg_print.specs.Summaries.{summary_text}
use Rattle.pg_top.specs.declared.answers.Answers.{Answers}
use Rattle.pg_top.specs.declared.answers.Answers.TheVariants.{Column, Forest, Summary}
use Rattle.pg_top.specs.declared.columns.Tree.{Tree}

abbrev pub tree_text : Tree → List ℕ
tree_text tree = forest_text (edges_at tree.graph.edges tree.indices.items)

abbrev pub text_in : Answers → List ℕ
text_in (Column numbers) = column_text numbers.of_vertices.items
text_in (Forest tree) = tree_text tree
text_in (Summary summary) = summary_text summary
