use Rattle.pg_words.proofs.BuiltLaws.{plans_are_built}
use Rattle.pg_words.proofs.laws.plans_are_built.Goals as goal

pub returns : goal.returns
returns c = plans_are_built
