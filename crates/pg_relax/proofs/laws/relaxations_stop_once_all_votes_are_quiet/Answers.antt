use Rattle.std.proofs.Common.{subst}
use Rattle.pg_best.specs.Marks.{Marks}
use Rattle.pg_relax.specs.Rounds.{count_of}
use Rattle.pg_relax.specs.States.{part_of, due}
use Rattle.pg_relax.proofs.EndingLemmas.{stops_when_quiet}
use Rattle.pg_relax.proofs.laws.relaxations_stop_once_all_votes_are_quiet.Goals as goal

pub returns : goal.returns
returns g c = λ start handled sent now keeps ended some k votes early are.
    let pending = g.A.Agenda.pending now.frontier.agenda in
    let takes = g.A.Agenda.takes now.frontier.agenda in
    let is_due = due now.part pending takes now.ahead in
    stops_when_quiet (part_of now.part) handled sent is_due (count_of now.rounds) now.cast now.sends
    (subst (λ e. Marks (part_of now.part) handled sent is_due (count_of now.rounds) now.cast e now.sends) ended keeps.relaxed.marked) some k votes early are
