use Rattle.std.proofs.Common.{◌%◌, ◌^◌, ap, sym, subst, ◌∙◌, arith}
use Rattle.pg_group.proofs.RollLemmas.{AreRolled, length-append_marks, items_in-marks, voted-at}
use Rattle.pg_group.proofs.rolls.RollProgram.round_end.Goals as goal

pub returns-then-self-clause-kept : goal.returns-then-self-clause-kept
returns-then-self-clause-kept c = λ start handled sent kept.
    let roll = c.args.self.now in
    record {
      same_rank = kept.same_rank;
      same_ranks = kept.same_ranks;
      same_rounds = kept.same_rounds;
      from_each = length-append_marks roll.rank.0 c.args._votes.now handled ∙ kept.from_each;
      to_each = kept.to_each;
      rolled = kept.rolled;
      counted = kept.counted ∙ ap (λ n. n % 2 ^ 64) (sym (items_in-marks roll.rank.0 c.args._votes.now handled));
      last = λ _. voted-at c.args._votes.now roll.rank.0 roll.round roll.cast (omega (arith, roll.in_group, c.requires.each)) c.requires.mine ∙ c.if-self.true;
    }

pub returns-clause-kept : goal.returns-clause-kept
returns-clause-kept c = λ start handled sent kept.
    let roll = c.args.self.now in
    record {
      same_rank = kept.same_rank;
      same_ranks = kept.same_ranks;
      same_rounds = kept.same_rounds;
      from_each = length-append_marks roll.rank.0 c.args._votes.now handled ∙ kept.from_each;
      to_each = kept.to_each;
      rolled = subst (λ n. AreRolled roll.rank.0 roll.ranks n roll.next sent) (voted-at c.args._votes.now roll.rank.0 roll.round roll.cast (omega (arith, roll.in_group, c.requires.each)) c.requires.mine) kept.rolled;
      counted = kept.counted ∙ ap (λ n. n % 2 ^ 64) (sym (items_in-marks roll.rank.0 c.args._votes.now handled));
      last = λ ended. absurd (cc (ended, c.requires.running));
    }
