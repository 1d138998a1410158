use Rattle.std.proofs.Common.{refl, sym, subst}
use Rattle.std.proofs.lemmas.List.{length-replicate}
use Rattle.pg_group.specs.Supersteps.{nothing}
use Rattle.pg_uses.specs.Greatest.{IsGreatest}
use Rattle.pg_uses.specs.Kept.{IsKnown}
use Rattle.pg_uses.proofs.Hearing.{knows_own}
use Rattle.pg_uses.proofs.Telling.{none_told}
use Rattle.pg_uses.proofs.programs.DegreesProgram.rank.Goals as goal

pub returns-clause-opening : goal.returns-clause-opening
returns-clause-opening c = λ new.
    let p = c.args.self.now in
    record {
      same_rank = refl;
      same_ranks = refl;
      same_own = refl;
      from_each = length-replicate p.ranks _;
      to_each = length-replicate p.ranks _;
      greatest = subst (IsGreatest (IsKnown p.own (nothing p.ranks))) (sym new.greatest) (knows_own p.own p.ranks);
      tells = none_told p.rank.0 p.ranks p.own p.next p.cast new.next new.cast;
    }
