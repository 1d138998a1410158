use Rattle.pg_boruvka.proofs.ExampleRun.{example_is}
use Rattle.pg_boruvka.proofs.laws.example_run.Goals as goal

pub returns : goal.returns
returns c = example_is
