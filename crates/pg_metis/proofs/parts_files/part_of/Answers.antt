use Rattle.std.proofs.Common.{arith}
use Rattle.pg_metis.proofs.PartsReadingLemmas.{bad-word, one-word, past-ranks, second-word}
use Rattle.pg_metis.proofs.parts_files.part_of.Goals as goal

pub returns-in_default-number-clause-refused : goal.returns-in_default-number-clause-refused
returns-in_default-number-clause-refused c = bad-word c.args.ranks _ _ _ c.in-Some.word.now c.words-left.ensures c.in-Some.ensures.steps (cc)

pub returns-then-part-from-clause-refused : goal.returns-then-part-from-clause-refused
returns-then-part-from-clause-refused c =
    past-ranks c.args.ranks _ _ _ c.in-Some.word.now c.in-Some-number.part c.words-left.ensures c.in-Some.ensures.steps (cc) (omega (arith, c.if-part-from.true, c.from.ensures, c.count.ensures.value))

pub returns-then-is_some-clause-refused : goal.returns-then-is_some-clause-refused
returns-then-is_some-clause-refused c =
    second-word c.args.ranks _ _ _ _ c.in-Some.word.now c.in-Some-number.part c.next-2.result c.words-left.ensures c.in-Some.ensures.steps (cc) (omega (arith, c.if-part-from.false, c.from.ensures, c.count.ensures.value)) c.next-2.ensures.steps c.if-is_some.ensures

pub returns-clause-gives : goal.returns-clause-gives
returns-clause-gives c =
    one-word _ _ _ _ c.in-Some.word.now c.in-Some-number.part c.next-2.result c.words-left.ensures c.in-Some.ensures.steps (cc) c.next-2.ensures.steps c.if-is_some.ensures
