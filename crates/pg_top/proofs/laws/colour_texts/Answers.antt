use Rattle.pg_top.proofs.TreeTexts.{text_of_path, no_other_first}
use Rattle.pg_top.proofs.laws.colour_texts.Goals as goal

pub returns : goal.returns
returns c = record {
  path = text_of_path c.colourings.ensures.listed c.colourings.ensures.first_fit;
  other_first = no_other_first c.colourings.ensures.listed c.colourings.ensures.first_fit;
}
