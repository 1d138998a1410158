use Rattle.std.proofs.Common.{sym, ◌∙◌, ap}
use Rattle.std.specs.Prelude.{nat_eq, ◌+◌}
use Rattle.pg_triggers.proofs.RollLemmas.{rolls_last}
use Rattle.pg_triggers.proofs.laws.rolls_stop_with_their_last_round.Goals as goal

pub returns : goal.returns
returns c = λ rounds start as_many handled sent now keeps ended some k votes early is.
    ap (nat_eq (k + 1)) (sym (keeps.same_rounds ∙ as_many)) ∙ rolls_last now.round now.rounds k now.cast now.in_rounds (keeps.last ended) early
