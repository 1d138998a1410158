use Rattle.std.proofs.Common.{rules, ◌≡◌, arith, inl, inr, refl, sym, subst}
use Rattle.pg_triggers.proofs.PairLemmas.{Promise, first_worked, second_worked, blocked_so}
use Rattle.pg_triggers.proofs.MarkLemmas.{none_posted}
use Rattle.pg_triggers.proofs.PostLemmas.{one_sent, member_did, rested, more_so, more_both}
use Rattle.pg_triggers.specs.declared.items.Of2.TheVariants.{First, Second}
use Rattle.pg_triggers.specs.Mine.{first_item, second_item, first_vote, second_vote}
use Rattle.pg_triggers.proofs.pairs.PairProgram.work.Goals as goal

pub returns-in-More-clause-kept : goal.returns-in-More-clause-kept
returns-in-More-clause-kept g c = λ start handled kept.
    let p = c.args.self.now in
    let q = c.work_on.new.self in
    let w = c.work_on.new.out in
    let done = c.work_on.ensures in
    let KA : Promise g.row.A-Body.Denot = λ h s. g.A.Program.Keeps start.first h s p.first in
    let KA' : Promise g.row.A-Body.Denot = λ h s. g.A.Program.Keeps start.first h s q in
    let KB : Promise g.row.B-Body.Denot = λ h s. g.B.Program.Keeps start.second h s p.second in
    first_worked KA KA' KB KB (g.A.Program.own p.first) (g.A.Program.size p.first) (g.A.Program.round p.first) (g.B.Program.round p.second) p.first_ended p.second_ended p.vote handled (g.O.Outbox.sent c.args.out.now) kept
    c.requires.uncast p.first_runs p.second_runs (g.A.Program.own q) (g.A.Program.size q) (g.A.Program.round q) done.same_own done.same_size done.same_round done.out_rest.2.0 (g.O.Outbox.sent w.out.now) _ (search rules) done.out_rest.2.1
    done.sends_none (λ ended h s k. subst (λ x. g.A.Program.Keeps start.first h s x) (sym (done.rests ended)) k) (λ h k. done.kept start.first h k)

pub returns-in-Blocked-clause-kept : goal.returns-in-Blocked-clause-kept
returns-in-Blocked-clause-kept g c = λ start handled kept.
    let p = c.args.self.now in
    let q = c.work_on.new.self in
    let w = c.work_on.new.out in
    let done = c.work_on.ensures in
    let KA : Promise g.row.A-Body.Denot = λ h s. g.A.Program.Keeps start.first h s p.first in
    let KA' : Promise g.row.A-Body.Denot = λ h s. g.A.Program.Keeps start.first h s q in
    let KB : Promise g.row.B-Body.Denot = λ h s. g.B.Program.Keeps start.second h s p.second in
    first_worked KA KA' KB KB (g.A.Program.own p.first) (g.A.Program.size p.first) (g.A.Program.round p.first) (g.B.Program.round p.second) p.first_ended p.second_ended p.vote handled (g.O.Outbox.sent c.args.out.now) kept
    c.requires.uncast p.first_runs p.second_runs (g.A.Program.own q) (g.A.Program.size q) (g.A.Program.round q) done.same_own done.same_size done.same_round done.out_rest.2.0 (g.O.Outbox.sent w.out.now) _ (search rules) done.out_rest.2.1
    done.sends_none (λ ended h s k. subst (λ x. g.A.Program.Keeps start.first h s x) (sym (done.rests ended)) k) (λ h k. done.kept start.first h k)

pub returns-in-Blocked-clause-blocked_sends : goal.returns-in-Blocked-clause-blocked_sends
returns-in-Blocked-clause-blocked_sends g c =
    let w = c.work_on.new.out in
    let rest = c.work_on.ensures.out_rest in
    let same : g.O.Outbox.sent w.out.now ≡ g.O.Outbox.sent c.args.out.now =
    none_posted First first_item first_vote (λ x. refl) rest.2.0 (g.O.Outbox.sent c.args.out.now) (g.O.Outbox.sent w.out.now) rest.2.1 c.in-Blocked.ensures.blocked_sends in
    search rules

pub returns-in-Idle-clause-blocked_sends : goal.returns-in-Idle-clause-blocked_sends
returns-in-Idle-clause-blocked_sends g c =
    let w = c.work_on-in-Idle.new.out in
    let rest = c.work_on-in-Idle.ensures.out_rest in
    blocked_so c.work_on-in-Idle.result _ _ (λ to same.
    let none : g.O.Outbox.sent w.out.now ≡ _ = none_posted Second second_item second_vote (λ x. refl) rest.2.0 _ (g.O.Outbox.sent w.out.now) rest.2.1 same in
    search rules) c.work_on-in-Idle.ensures.blocked_sends

pub returns-in-Idle-clause-kept : goal.returns-in-Idle-clause-kept
returns-in-Idle-clause-kept g c = λ start handled kept.
    let p = c.args.self.now in
    let q = c.work_on.new.self in
    let r = c.work_on-in-Idle.new.self in
    let w = c.work_on.new.out in
    let v = c.work_on-in-Idle.new.out in
    let did = c.work_on.ensures in
    let done = c.work_on-in-Idle.ensures in
    let KA : Promise g.row.A-Body.Denot = λ h s. g.A.Program.Keeps start.first h s p.first in
    let KA' : Promise g.row.A-Body.Denot = λ h s. g.A.Program.Keeps start.first h s q in
    let KB : Promise g.row.B-Body.Denot = λ h s. g.B.Program.Keeps start.second h s p.second in
    let KB' : Promise g.row.B-Body.Denot = λ h s. g.B.Program.Keeps start.second h s r in
    let old = g.O.Outbox.sent c.args.out.now in
    let idle : old ≡ g.O.Outbox.sent w.out.now = search rules in
    second_worked KA' KA' KB KB' (g.A.Program.own q) (g.A.Program.size q) (g.A.Program.round q) (g.B.Program.round p.second) p.first_ended p.second_ended p.vote handled old
    (first_worked KA KA' KB KB (g.A.Program.own p.first) (g.A.Program.size p.first) (g.A.Program.round p.first) (g.B.Program.round p.second) p.first_ended p.second_ended p.vote handled old kept
    c.requires.uncast p.first_runs p.second_runs (g.A.Program.own q) (g.A.Program.size q) (g.A.Program.round q) did.same_own did.same_size did.same_round did.out_rest.2.0 (g.O.Outbox.sent w.out.now) old idle did.out_rest.2.1
    did.sends_none (λ ended h s k. subst (λ x. g.A.Program.Keeps start.first h s x) (sym (did.rests ended)) k) (λ h k. did.kept start.first h k))
    c.requires.uncast (λ runs. omega (arith, p.first_runs runs, did.same_round)) (λ runs. omega (arith, p.second_runs runs, did.same_round))
    (g.B.Program.round r) done.same_round done.out_rest.2.0 _ (g.O.Outbox.sent v.out.now) _ (search rules) (search rules) done.out_rest.2.1
    done.sends_none (λ ended h s k. subst (λ x. g.B.Program.Keeps start.second h s x) (sym (done.rests ended)) k) (λ h k. done.kept start.second h k)

pub returns-in-More-clause-one : goal.returns-in-More-clause-one
returns-in-More-clause-one g c =
    let old = g.O.Outbox.sent c.args.out.now in
    let w = c.work_on.new.out in
    let rest = c.work_on.ensures.out_rest in
    one_sent First first_item first_vote (λ x. refl) _ _ _ _ refl refl rest.2.0 old old (g.O.Outbox.sent w.out.now) _ refl (search rules) rest.2.1 c.in-More.ensures.one

pub returns-in-Idle-clause-one : goal.returns-in-Idle-clause-one
returns-in-Idle-clause-one g c =
    let p = c.args.self.now in
    let old = g.O.Outbox.sent c.args.out.now in
    let v = c.work_on-in-Idle.new.out in
    let rest = c.work_on-in-Idle.ensures.out_rest in
    more_so c.work_on-in-Idle.result _ _ (λ one. one_sent Second second_item second_vote (λ x. refl) _ _ _ _ p.same_rank p.same_size rest.2.0 old _ (g.O.Outbox.sent v.out.now) _ (search rules) (search rules) rest.2.1 one) c.work_on-in-Idle.ensures.one

pub returns-in-More-clause-more : goal.returns-in-More-clause-more
returns-in-More-clause-more g c =
    let p = c.args.self.now in
    let q = c.work_on.new.self in
    let old = g.O.Outbox.sent c.args.out.now in
    let w = c.work_on.new.out in
    let rest = c.work_on.ensures.out_rest in
    let said = c.in-More.ensures in
    inl (member_did first_item first_vote second_item second_vote First (λ x. refl) (λ s m. g.A.Program.DidItem p.first s q m) p.first_ended rest.2.0 old old (g.O.Outbox.sent w.out.now) _ refl (search rules) rest.2.1 said.more_runs said.more, refl)

pub returns-in-Idle-clause-more : goal.returns-in-Idle-clause-more
returns-in-Idle-clause-more g c =
    let p = c.args.self.now in
    let q = c.work_on.new.self in
    let r = c.work_on-in-Idle.new.self in
    let old = g.O.Outbox.sent c.args.out.now in
    let v = c.work_on-in-Idle.new.out in
    let said = c.work_on-in-Idle.ensures in
    let idle = rested p.first_ended (q ≡ p.first) (g.A.Program.DidNothing p.first q) c.work_on.ensures.rests c.in-Idle.ensures.idle_did in
    more_both c.work_on-in-Idle.result _ _ _ (λ runs did. inr (member_did second_item second_vote first_item first_vote Second (λ x. refl) (λ s m. g.B.Program.DidItem p.second s r m) p.second_ended said.out_rest.2.0 old _ (g.O.Outbox.sent v.out.now) _ (search rules) (search rules) said.out_rest.2.1 runs did, idle)) said.more_runs said.more
