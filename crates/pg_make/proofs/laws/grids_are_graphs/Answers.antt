use Rattle.pg_make.proofs.Ascending.{grids_are_graphs, weights_are_small}
use Rattle.pg_make.proofs.laws.grids_are_graphs.Goals as goal

pub returns : goal.returns
returns c = record { graphs = grids_are_graphs; weights = weights_are_small }
