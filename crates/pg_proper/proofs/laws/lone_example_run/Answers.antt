use Rattle.pg_proper.proofs.LoneRun.{is_run, ended, answer}
use Rattle.pg_proper.proofs.laws.lone_example_run.Goals as goal

pub returns : goal.returns
returns c = record { is = is_run; ended = ended; answer = answer }
