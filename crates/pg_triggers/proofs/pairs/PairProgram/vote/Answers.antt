use Rattle.std.proofs.Common.{refl, sym, subst}
use Rattle.pg_triggers.proofs.PairLemmas.{Promise, both_along, both_vote, same_mark, narrow_vote}
use Rattle.pg_triggers.proofs.pairs.PairProgram.vote.Goals as goal

pub returns-clause-kept : goal.returns-clause-kept
returns-clause-kept g c = λ start handled sent kept.
    let p = c.args.self.now in
    let first = c.vote_on-first in
    let second = c.vote_on-second in
    let q = first.new.self in
    let r = second.new.self in
    let own = g.A.Program.own p.first in
    let KA : Promise g.row.A-Body.Denot = λ h s. g.A.Program.Keeps start.first h s p.first in
    let KA' : Promise g.row.A-Body.Denot = λ h s. g.A.Program.Keeps start.first h s q in
    let KB : Promise g.row.B-Body.Denot = λ h s. g.B.Program.Keeps start.second h s p.second in
    let KB' : Promise g.row.B-Body.Denot = λ h s. g.B.Program.Keeps start.second h s r in
    both_along KA' KB' own (g.A.Program.own q) (g.A.Program.size p.first) (g.A.Program.size q) (g.A.Program.round p.first) (g.A.Program.round q) (g.B.Program.round p.second) (g.B.Program.round r)
    p.first_ended p.second_ended _ handled _ first.ensures.same_own first.ensures.same_size first.ensures.same_round second.ensures.same_round
    (both_vote KA KA' KB KB' own (g.A.Program.size p.first) (g.A.Program.round p.first) (g.B.Program.round p.second) p.first_ended p.second_ended p.vote handled sent kept
    c.requires.uncast p.first_runs p.second_runs _ (p.goes_on c.requires.uncast)
    (λ ended h s k. subst (λ x. g.A.Program.Keeps start.first h s x) (sym (first.ensures.rests ended)) k)
    (λ ended h s k. subst (λ x. g.B.Program.Keeps start.second h s x) (sym (second.ensures.rests ended)) k)
    (λ runs h s k. same_mark KA' own own first.result _ h s refl (narrow_vote first.result first.result.a first.result.b first.ensures.c first.ensures.d refl refl) (first.ensures.kept runs start.first h s k))
    (λ runs h s k. same_mark KB' own (g.B.Program.own p.second) second.result _ h s p.same_rank (narrow_vote second.result second.result.a second.result.b second.ensures.c second.ensures.d refl refl) (second.ensures.kept runs start.second h s k)))
