use Rattle.pg_boruvka.proofs.Ending.{whole_is_forest, whole_is_least}
use Rattle.pg_boruvka.proofs.laws.whole_runs.Goals as goal

pub returns : goal.returns
returns c = record { forest = whole_is_forest; least = whole_is_least }
