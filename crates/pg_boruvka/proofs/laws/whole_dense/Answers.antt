use Rattle.pg_boruvka.proofs.DenseRuns.{dense_is_forest, dense_is_least}
use Rattle.pg_boruvka.proofs.laws.whole_dense.Goals as goal

pub returns : goal.returns
returns c = record { forest = dense_is_forest; least = dense_is_least }
