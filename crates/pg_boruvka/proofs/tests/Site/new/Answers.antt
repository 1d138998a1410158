use Rattle.pg_group.proofs.Popped.{flag_clear}
use Rattle.pg_boruvka.proofs.tests.Site.new.Goals as goal

pub invariant_of-result-clause-unmarked : goal.invariant_of-result-clause-unmarked
invariant_of-result-clause-unmarked g c = λ rank. flag_clear _ c.args.ranks rank c.requires.unmarked
