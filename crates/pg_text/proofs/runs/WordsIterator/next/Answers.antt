use Rattle.std.proofs.Common.{ap, length, arith, rules}
use Rattle.std.proofs.lemmas.Bool.Decides.{nat_tests}
use Rattle.pg_text.proofs.WordLemmas.{words-first, words-none}
use Rattle.pg_text.proofs.runs.WordsIterator.next.Goals as goal

pub returns-then-is_empty-clause-steps : goal.returns-then-is_empty-clause-steps
returns-then-is_empty-clause-steps c = words-none _ _ _ _ _ c.split_blanks.ensures c.split_word.ensures (grind (arith, nat_tests))

pub returns-clause-steps : goal.returns-clause-steps
returns-clause-steps c = words-first _ _ _ _ _ c.split_blanks.ensures c.split_word.ensures (grind (arith, nat_tests))

pub returns-clause-goes : goal.returns-clause-goes
returns-clause-goes c =
    let steps = words-first _ _ _ _ _ c.split_blanks.ensures c.split_word.ensures (grind (arith, nat_tests)) in
    let fewer = ap length steps in
    search rules
