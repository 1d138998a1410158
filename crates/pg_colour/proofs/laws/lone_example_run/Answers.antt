use Rattle.pg_colour.proofs.LoneRun.{lone_is}
use Rattle.pg_colour.proofs.laws.lone_example_run.Goals as goal

pub returns : goal.returns
returns c = lone_is
