use Rattle.std.proofs.Common.{refl, subst}
use Rattle.pg_group.specs.Ranked.{IsOther}
use Rattle.pg_uses.proofs.Keeping.{sent_kept, still_running}
use Rattle.pg_uses.proofs.neighbour_programs.NeighbourDegreesProgram.work.Goals as goal

pub returns-in-More-clause-kept : goal.returns-in-More-clause-kept
returns-in-More-clause-kept g c = λ start handled kept.
    let p = c.args.self.now in
    let h = c.in-More.ensures.more in
    let other = subst (λ n. IsOther p.part.rank n h.0) c.requires.size (subst (λ n. IsOther n (g.O.Outbox.size c.args.out.now) h.0) c.requires.own h.2) in
    sent_kept start p _ handled (g.O.Outbox.sent c.args.out.now) (record { part = refl; phase = c.work-worked.ensures.phase; cast = refl; ended = refl }) kept
    h.0 h.1 (g.O.Outbox.sent c.work-worked.new.out) other c.requires.uncast (still_running p c.requires.uncast) h.4 h.3
