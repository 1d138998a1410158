use Rattle.pg_top.proofs.TreeTexts.{text_of_triangle, no_other_tree, no_part_of_tree}
use Rattle.pg_top.proofs.laws.forest_texts.Goals as goal

pub returns : goal.returns
returns c = record {
  triangle = text_of_triangle c.forests.ensures.whole;
  other_tree = no_other_tree c.forests.ensures.whole;
  lacking = no_part_of_tree c.forests.ensures.whole;
}
