use Rattle.pg_triggers.proofs.PairLemmas.{first_handled, second_handled}
use Rattle.pg_triggers.proofs.pairs.PairProgram.handle.Goals as goal

pub returns-in-First-clause-kept : goal.returns-in-First-clause-kept
returns-in-First-clause-kept g c = λ start handled sent kept.
    let p = c.args.self.now in
    let q = c.handle.new.self in
    let done = c.handle.ensures in
    first_handled (λ h s. g.A.Program.Keeps start.first h s p.first) (λ h s. g.A.Program.Keeps start.first h s q) (λ h s. g.B.Program.Keeps start.second h s p.second) (λ h s. g.B.Program.Keeps start.second h s p.second)
    (g.A.Program.own p.first) (g.A.Program.size p.first) (g.A.Program.round p.first) (g.B.Program.round p.second) p.first_ended p.second_ended p.vote handled sent kept
    (g.A.Program.own q) (g.A.Program.size q) (g.A.Program.round q) done.same_own done.same_size done.same_round c.args.from.0 c.args.body c.in-First.item c.in-First.is (done.kept start.first)

pub returns-in-Second-clause-kept : goal.returns-in-Second-clause-kept
returns-in-Second-clause-kept g c = λ start handled sent kept.
    let p = c.args.self.now in
    let q = c.handle-in-Second.new.self in
    let done = c.handle-in-Second.ensures in
    second_handled (λ h s. g.A.Program.Keeps start.first h s p.first) (λ h s. g.A.Program.Keeps start.first h s p.first) (λ h s. g.B.Program.Keeps start.second h s p.second) (λ h s. g.B.Program.Keeps start.second h s q)
    (g.A.Program.own p.first) (g.A.Program.size p.first) (g.A.Program.round p.first) (g.B.Program.round p.second) p.first_ended p.second_ended p.vote handled sent kept
    (g.B.Program.round q) done.same_round c.args.from.0 c.args.body c.in-Second.item c.in-Second.is (done.kept start.second)
