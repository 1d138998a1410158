use Rattle.pg_metis.specs.FileLaws.{FaultyTextsAreNoFiles}
use Rattle.pg_metis.proofs.OneGraph.{files_are_of_one_graph}
use Rattle.pg_metis.proofs.FaultLaws.{faultless_texts_are_files, files_have_no_fault}
use Rattle.pg_metis.proofs.laws.file_laws.Goals as goal

faulty_texts_are_no_files : FaultyTextsAreNoFiles
faulty_texts_are_no_files text fault g is p = let none = files_have_no_fault text g p in cc

pub returns : goal.returns
returns c = record {
  one_graph = files_are_of_one_graph;
  no_fault = files_have_no_fault;
  faultless = faultless_texts_are_files;
  faulty = faulty_texts_are_no_files;
}
