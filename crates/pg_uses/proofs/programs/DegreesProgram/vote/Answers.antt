use Rattle.std.proofs.Common.{◌∙◌}
use Rattle.pg_group.specs.declared.messages.Body.TheVariants.{Mark}
use Rattle.pg_group.proofs.RollLemmas.{length-append_others}
use Rattle.pg_uses.proofs.Telling.{tells_vote}
use Rattle.pg_uses.proofs.programs.DegreesProgram.vote.Goals as goal

pub returns-clause-kept : goal.returns-clause-kept
returns-clause-kept c = λ start handled sent kept.
    let p = c.args.self.now in
    record {
      same_rank = kept.same_rank;
      same_ranks = kept.same_ranks;
      same_own = kept.same_own;
      from_each = kept.from_each;
      to_each = length-append_others p.rank.0 (Mark _) sent ∙ kept.to_each;
      greatest = kept.greatest;
      tells = tells_vote p.rank.0 p.ranks p.own p.next p.cast _ sent kept.to_each c.requires.uncast kept.tells;
    }
