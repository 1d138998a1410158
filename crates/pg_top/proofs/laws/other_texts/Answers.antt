use Rattle.std.proofs.Common.{arith, refl}
use Rattle.pg_top.proofs.SearchTexts.{text_of_weights, no_text_of_arcs, text_of_roots}
use Rattle.pg_top.proofs.SummaryTexts.{summary_of_one, no_clash_of_one}
use Rattle.pg_top.proofs.laws.other_texts.Goals as goal

pub returns : goal.returns
returns c = record {
  weights = text_of_weights;
  weights_count_no_arcs = no_text_of_arcs;
  weights_below = λ is. omega (arith, is.inside.first refl);
  roots = text_of_roots;
  summary = summary_of_one;
  summary_with_clashes = no_clash_of_one;
}
