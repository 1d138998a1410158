use Rattle.std.proofs.Common.{◌∙◌, subst}
use Rattle.pg_group.specs.Supersteps.{nothing}
use Rattle.pg_triggers.proofs.PairLemmas.{opens}
use Rattle.pg_triggers.proofs.pairs.PairProgram.rank.Goals as goal

pub returns-clause-opening : goal.returns-clause-opening
returns-clause-opening g c = λ new.
    let p = c.args.self.now in
    opens _ _ (g.A.Program.own p.first) (g.A.Program.size p.first) (g.A.Program.round p.first) (g.B.Program.round p.second) p.first_ended p.second_ended p.vote
    (c.rank.ensures.first_round new.0) (c.rank-second.ensures.first_round new.1) (p.first_ends ∙ c.rank.ensures.not_ended new.0) (p.second_ends ∙ c.rank-second.ensures.not_ended new.1) new.2
    (c.rank.ensures.opening new.0) (subst (λ n. g.B.Program.Keeps p.second (nothing n) (nothing n) p.second) p.same_size (c.rank-second.ensures.opening new.1))
