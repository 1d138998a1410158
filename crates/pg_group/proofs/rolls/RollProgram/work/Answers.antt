use Rattle.std.proofs.Common.{length, refl, ap, ◌∙◌, arith}
use Rattle.pg_group.specs.declared.messages.Body.TheVariants.{Item}
use Rattle.pg_group.specs.Rolls.{voted}
use Rattle.pg_group.proofs.RollLemmas.{length-append_at, from_next, rolled-sent, still_busy}
use Rattle.pg_group.proofs.rolls.RollProgram.work.Goals as goal

pub returns-in-Ok-clause-kept : goal.returns-in-Ok-clause-kept
returns-in-Ok-clause-kept g c = λ start handled kept.
    let roll = c.args.self.now in
    let sent = g.O.Outbox.sent c.args.out.now in
    let to = c.in-Some.to.0 in
    record {
      same_rank = kept.same_rank;
      same_ranks = kept.same_ranks;
      same_rounds = kept.same_rounds;
      from_each = kept.from_each;
      to_each = ap length c.in-Ok.ensures.ok ∙ length-append_at sent to (Item roll.rank.0) ∙ kept.to_each;
      rolled = rolled-sent roll.rank.0 roll.ranks (voted roll.round roll.cast) roll.next to sent _ kept.to_each c.in-Some.ensures.other c.in-Some.ensures.ascending c.in-Ok.ensures.ok kept.rolled;
      counted = kept.counted;
      last = kept.last;
    }

pub invariant_of-self : goal.invariant_of-self
invariant_of-self g c =
    let roll = c.args.self.now in
    record { in_group = roll.in_group; in_rounds = roll.in_rounds; all_sent = λ idle uncast. c.in-None.ensures.all_sent refl }

pub returns-in-None-clause-idle : goal.returns-in-None-clause-idle
returns-in-None-clause-idle g c = c.in-None.ensures.all_sent refl

pub invariant_of-self-in-Ok : goal.invariant_of-self-in-Ok
invariant_of-self-in-Ok g c =
    let roll = c.args.self.now in
    record { in_group = roll.in_group; in_rounds = roll.in_rounds; all_sent = λ idle uncast rank other. omega (arith, roll.all_sent idle uncast rank other, from_next roll.rank.0 roll.next c.in-Some.to.0 c.in-Some.ensures.ascending) }

pub returns-in-Ok-clause-more_shows : goal.returns-in-Ok-clause-more_shows
returns-in-Ok-clause-more_shows g c =
    let roll = c.args.self.now in
    still_busy roll.idle roll.rank.0 roll.next c.in-Some.to.0 (λ idle. roll.all_sent idle c.requires.uncast c.in-Some.to.0 c.in-Some.ensures.other) c.in-Some.ensures.ascending

pub returns-in-Err-clause-blocked_shows : goal.returns-in-Err-clause-blocked_shows
returns-in-Err-clause-blocked_shows g c =
    let roll = c.args.self.now in
    still_busy roll.idle roll.rank.0 roll.next c.in-Some.to.0 (λ idle. roll.all_sent idle c.requires.uncast c.in-Some.to.0 c.in-Some.ensures.other) c.in-Some.ensures.ascending
