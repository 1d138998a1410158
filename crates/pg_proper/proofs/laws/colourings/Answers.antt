use Rattle.pg_proper.proofs.Rounds.{own_stay_apart, vertices_are_coloured, end_is_proper}
use Rattle.pg_proper.proofs.FirstFit.{one_rank_is_first_fit}
use Rattle.pg_proper.proofs.laws.colourings.Goals as goal

pub returns : goal.returns
returns c = record {
  own = own_stay_apart;
  coloured = vertices_are_coloured;
  proper = end_is_proper;
  first_fit = one_rank_is_first_fit;
}
