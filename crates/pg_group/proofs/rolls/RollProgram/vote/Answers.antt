use Rattle.std.proofs.Common.{ap, ◌∙◌, arith}
use Rattle.pg_group.specs.declared.messages.Body.TheVariants.{Mark}
use Rattle.pg_group.specs.Rolls.{voted}
use Rattle.pg_group.proofs.RollLemmas.{length-append_others, rolled-voted}
use Rattle.pg_group.proofs.rolls.RollProgram.vote.Goals as goal

pub returns-clause-kept : goal.returns-clause-kept
returns-clause-kept c = λ start handled sent kept.
    let roll = c.args.self.now in
    let uncast = ap (voted roll.round) c.requires.uncast in
    record {
      same_rank = kept.same_rank;
      same_ranks = kept.same_ranks;
      same_rounds = kept.same_rounds;
      from_each = kept.from_each;
      to_each = length-append_others roll.rank.0 (Mark _) sent ∙ kept.to_each;
      rolled = rolled-voted roll.rank.0 roll.ranks (voted roll.round roll.cast) roll.round roll.next _ sent kept.to_each uncast (roll.all_sent c.requires.idle c.requires.uncast) kept.rolled;
      counted = kept.counted;
      last = λ ended. absurd (omega (arith, kept.last ended, uncast, roll.in_rounds));
    }
