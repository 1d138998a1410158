use Rattle.pg_base.proofs.WalkLemmas.{least_is_one, lowest_is_one}
use Rattle.pg_base.proofs.laws.answer_laws.Goals as goal

pub returns : goal.returns
returns c = record { least = least_is_one; lowest = lowest_is_one }
