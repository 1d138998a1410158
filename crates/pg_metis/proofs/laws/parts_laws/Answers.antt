use Rattle.pg_metis.proofs.PartsLemmas.{faultless_texts_give_parts, parts_files_are_of_one_list, parts_files_have_no_fault}
use Rattle.pg_metis.proofs.laws.parts_laws.Goals as goal

pub returns : goal.returns
returns c = record {
  one_list = parts_files_are_of_one_list;
  no_fault = parts_files_have_no_fault;
  faultless = faultless_texts_give_parts;
}
