use Rattle.pg_base.proofs.BestLemmas.{best_is_one, hops_are_least, weights_are_least, roots_are_lowest}
use Rattle.pg_base.proofs.laws.best_laws.Goals as goal

pub returns : goal.returns
returns c = record { one = best_is_one; hops = hops_are_least; weights = weights_are_least; roots = roots_are_lowest }
