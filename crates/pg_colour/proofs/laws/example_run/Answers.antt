use Rattle.pg_colour.proofs.ExampleRun.{example_is}
use Rattle.pg_colour.proofs.laws.example_run.Goals as goal

pub returns : goal.returns
returns c = example_is
