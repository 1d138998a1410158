use Rattle.std.proofs.Common.{arith, refl}
use Rattle.pg_top.proofs.SearchTexts.{text_from_1, text_from_2, text_alone, other_text}
use Rattle.pg_top.proofs.laws.search_texts.Goals as goal

pub returns : goal.returns
returns c = record {
  path_from_1 = text_from_1;
  path_from_2 = text_from_2;
  alone = text_alone;
  below = λ is. omega (arith, is.inside.first refl);
  above = λ is. omega (arith, is.inside.last refl);
  other = other_text;
}
