use Rattle.pg_metis.proofs.NumberLemmas.{is-number}
use Rattle.pg_metis.proofs.headers.count_of.Goals as goal

pub returns-clause-ok : goal.returns-clause-ok
returns-clause-ok c = is-number c.args.word.now c.in_ok-count.count c.in_ok-count.ensures.ok c.in_ok-count.ensures.value
