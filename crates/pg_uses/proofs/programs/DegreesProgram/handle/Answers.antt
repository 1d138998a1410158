use Rattle.std.proofs.Common.{◌∙◌, sym, subst, arith}
use Rattle.pg_group.specs.declared.messages.Body.TheVariants.{Item}
use Rattle.pg_group.specs.Ranked.{append_at}
use Rattle.pg_group.proofs.RollLemmas.{length-append_at}
use Rattle.pg_uses.specs.Greatest.{IsGreatest}
use Rattle.pg_uses.specs.Kept.{IsKnown}
use Rattle.pg_uses.proofs.Hearing.{hears}
use Rattle.pg_uses.proofs.programs.DegreesProgram.handle.Goals as goal

pub returns-clause-kept : goal.returns-clause-kept
returns-clause-kept c = λ start handled sent kept.
    let p = c.args.self.now in
    let from = c.args._from.0 in
    let body = c.args.body in
    record {
      same_rank = kept.same_rank;
      same_ranks = kept.same_ranks;
      same_own = kept.same_own;
      from_each = length-append_at handled from (Item body) ∙ kept.from_each;
      to_each = kept.to_each;
      greatest = subst (IsGreatest (IsKnown p.own (append_at handled from (Item body)))) (sym c.max-self.ensures)
          (hears p.own from body handled (omega (arith, kept.from_each, c.requires.0)) p.greatest kept.greatest);
      tells = kept.tells;
    }
