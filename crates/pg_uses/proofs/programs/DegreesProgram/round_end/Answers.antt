use Rattle.std.proofs.Common.{◌∙◌}
use Rattle.pg_group.proofs.RollLemmas.{length-append_marks}
use Rattle.pg_uses.proofs.Hearing.{hears_marks}
use Rattle.pg_uses.proofs.programs.DegreesProgram.round_end.Goals as goal

pub returns-clause-kept : goal.returns-clause-kept
returns-clause-kept c = λ start handled sent kept.
    let p = c.args.self.now in
    record {
      same_rank = kept.same_rank;
      same_ranks = kept.same_ranks;
      same_own = kept.same_own;
      from_each = length-append_marks p.rank.0 c.args._votes.now handled ∙ kept.from_each;
      to_each = kept.to_each;
      greatest = hears_marks p.own p.rank.0 c.args._votes.now handled p.greatest kept.greatest;
      tells = kept.tells;
    }
