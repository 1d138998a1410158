use Rattle.pg_metis.proofs.NumberLemmas.{no-number, number-is}
use Rattle.pg_metis.proofs.numbers.number_of.Goals as goal

pub returns-in_default-clause-refused : goal.returns-in_default-clause-refused
returns-in_default-clause-refused c = no-number c.args.word.now (cc)

pub returns-clause-ok : goal.returns-clause-ok
returns-clause-ok c = (number-is c.args.word.now c.in-Some.value (cc)).0

pub returns-clause-value : goal.returns-clause-value
returns-clause-value c = (number-is c.args.word.now c.in-Some.value (cc)).1
