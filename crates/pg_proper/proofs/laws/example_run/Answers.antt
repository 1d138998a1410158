use Rattle.std.proofs.Common.{refl}
use Rattle.pg_proper.proofs.ExampleRun.{is_run, ended, answer}
use Rattle.pg_proper.proofs.laws.example_run.Goals as goal

pub returns : goal.returns
returns c = record { is = is_run; twice = refl; ended = ended; answer = answer }
