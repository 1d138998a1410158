use Rattle.std.proofs.Common.{length, refl, ap, ◌∙◌}
use Rattle.pg_group.specs.declared.messages.Body.TheVariants.{Item}
use Rattle.pg_group.proofs.RollLemmas.{length-append_at}
use Rattle.pg_uses.proofs.Telling.{tells}
use Rattle.pg_uses.proofs.programs.DegreesProgram.work.Goals as goal

pub returns-in-Ok-clause-kept : goal.returns-in-Ok-clause-kept
returns-in-Ok-clause-kept g c = λ start handled kept.
    let p = c.args.self.now in
    let sent = g.O.Outbox.sent c.args.out.now in
    let to = c.in-Some.to.0 in
    record {
      same_rank = kept.same_rank;
      same_ranks = kept.same_ranks;
      same_own = kept.same_own;
      from_each = kept.from_each;
      to_each = ap length c.in-Ok.ensures.ok ∙ length-append_at sent to (Item p.own) ∙ kept.to_each;
      greatest = kept.greatest;
      tells = tells p.rank.0 p.ranks p.own p.next to p.cast sent _ kept.to_each c.requires.uncast c.in-Some.ensures.other c.in-Some.ensures.ascending c.in-Ok.ensures.ok kept.tells;
    }

pub invariant_of-self : goal.invariant_of-self
invariant_of-self g c =
    let p = c.args.self.now in
    record { in_group = p.in_group; told_all = λ idle. c.in-None.ensures.told_all refl; voted = λ cast. refl; over = p.over }

pub returns-in-None-clause-idle : goal.returns-in-None-clause-idle
returns-in-None-clause-idle g c = c.in-None.ensures.told_all refl
