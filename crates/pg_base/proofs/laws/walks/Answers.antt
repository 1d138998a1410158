use Rattle.pg_base.proofs.ExampleWalks.{path_to_3, path_apart}
use Rattle.pg_base.proofs.laws.walks.Goals as goal

pub returns-clause-walk : goal.returns-clause-walk
returns-clause-walk c = path_to_3

pub returns-clause-apart : goal.returns-clause-apart
returns-clause-apart c = path_apart
