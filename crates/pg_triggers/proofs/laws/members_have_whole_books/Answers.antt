use Rattle.pg_triggers.specs.Mine.{first_item, first_vote, second_item, second_vote}
use Rattle.pg_triggers.proofs.EndingLemmas.{pair_ended, own_book}
use Rattle.pg_triggers.proofs.laws.members_have_whole_books.Goals as goal

pub returns-clause-first : goal.returns-clause-first
returns-clause-first g c = λ ranks sent taken start now rule whole marked ended stops.
    let A = g.A.Program in
    let B = g.B.Program in
    own_book ranks sent taken whole marked _ A first_item first_vote rule (λ pair. pair.first) start now
    (λ rank h.
    let here = ended rank h in
    let s = start rank in
    let p = now rank in
    let members = pair_ended ranks sent taken whole marked _ rank s p here A B s.first p.first s.second p.second p.first_ended p.second_ended p.vote
    here.keeps.own here.keeps.size p.same_rank p.same_size p.first_ends p.second_ends here.ended here.keeps.keeps in
    record { within = h; keeps = here.keeps; member = members.0; stops = stops rank h })

pub returns-clause-second : goal.returns-clause-second
returns-clause-second g c = λ ranks sent taken start now rule whole marked ended stops.
    let A = g.A.Program in
    let B = g.B.Program in
    own_book ranks sent taken whole marked _ B second_item second_vote rule (λ pair. pair.second) start now
    (λ rank h.
    let here = ended rank h in
    let s = start rank in
    let p = now rank in
    let members = pair_ended ranks sent taken whole marked _ rank s p here A B s.first p.first s.second p.second p.first_ended p.second_ended p.vote
    here.keeps.own here.keeps.size p.same_rank p.same_size p.first_ends p.second_ends here.ended here.keeps.keeps in
    record { within = h; keeps = here.keeps; member = members.1; stops = stops rank h })
