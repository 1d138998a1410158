use Rattle.pg_triggers.specs.Mine.{second_item, second_vote}
use Rattle.pg_triggers.proofs.EndingLemmas.{same_end, pair_ended}
use Rattle.pg_triggers.proofs.pairs.Pair.second.Goals as goal

pub returns-clause-same_end : goal.returns-clause-same_end
returns-clause-same_end g c = λ ranks rank other sent taken start other_start other_now rule whole marked apart mine theirs stops other_stops.
    let now = c.args.self.now in
    let A = g.A.Program in
    let B = g.B.Program in
    let here = pair_ended ranks sent taken whole marked _ rank start now mine A B start.first now.first start.second now.second now.first_ended now.second_ended now.vote
    mine.keeps.own mine.keeps.size now.same_rank now.same_size now.first_ends now.second_ends mine.ended mine.keeps.keeps in
    let there = pair_ended ranks sent taken whole marked _ other other_start other_now theirs A B other_start.first other_now.first other_start.second other_now.second other_now.first_ended other_now.second_ended other_now.vote
    theirs.keeps.own theirs.keeps.size other_now.same_rank other_now.same_size other_now.first_ends other_now.second_ends theirs.ended theirs.keeps.keeps in
    same_end ranks sent taken whole marked _ B second_item second_vote rule rank other start now other_start other_now start.second now.second other_start.second other_now.second apart
    (record { within = mine.within; keeps = mine.keeps; member = here.1; stops = stops }) (record { within = theirs.within; keeps = theirs.keeps; member = there.1; stops = other_stops })
