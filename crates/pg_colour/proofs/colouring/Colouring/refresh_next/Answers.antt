use Rattle.std.proofs.Common.{refl}
use Rattle.pg_colour.proofs.SendLemmas.{after_noted, after_owed, after_small, after_unsent, after_within, none_to_send, on_more, refreshes_one, stays_noted, stays_owed, stays_small}
use Rattle.pg_colour.proofs.colouring.Colouring.refresh_next.Goals as goal

pub invariant_of-self-clause-not_owed : goal.invariant_of-self-clause-not_owed
invariant_of-self-clause-not_owed g c =
    let h = c.in-More.ensures.more in after_owed c.args.self.now c.requires.refresh c.work-worked.new.self h.0 h.1 h.4

pub invariant_of-self-clause-not_noted : goal.invariant_of-self-clause-not_noted
invariant_of-self-clause-not_noted g c =
    let h = c.in-More.ensures.more in after_noted c.args.self.now c.requires.refresh c.work-worked.new.self h.0 h.1 h.4

pub invariant_of-self-clause-small : goal.invariant_of-self-clause-small
invariant_of-self-clause-small g c =
    let h = c.in-More.ensures.more in after_small c.args.self.now c.requires.refresh c.work-worked.new.self h.0 h.1 h.4

pub invariant_of-self-clause-unsent : goal.invariant_of-self-clause-unsent
invariant_of-self-clause-unsent g c = λ refreshing.
    let h = c.in-More.ensures.more in after_unsent c.args.self.now c.requires.refresh c.work-worked.new.self h.0 h.1 h.4

pub invariant_of-self-clause-within : goal.invariant_of-self-clause-within
invariant_of-self-clause-within g c =
    let h = c.in-More.ensures.more in after_within c.args.self.now c.requires.refresh c.work-worked.new.self h.0 h.1 h.4 c.work-worked.ensures.phase

pub invariant_of-self-in-Idle-clause-not_noted : goal.invariant_of-self-in-Idle-clause-not_noted
invariant_of-self-in-Idle-clause-not_noted g c = stays_noted c.args.self.now c.work-worked.new.self c.in-Idle.ensures.idle_stays

pub invariant_of-self-in-Idle-clause-not_owed : goal.invariant_of-self-in-Idle-clause-not_owed
invariant_of-self-in-Idle-clause-not_owed g c = stays_owed c.args.self.now c.work-worked.new.self c.in-Idle.ensures.idle_stays

pub invariant_of-self-in-Idle-clause-small : goal.invariant_of-self-in-Idle-clause-small
invariant_of-self-in-Idle-clause-small g c = stays_small c.args.self.now c.work-worked.new.self c.in-Idle.ensures.idle_stays

pub invariant_of-self-in-Idle-clause-rests : goal.invariant_of-self-in-Idle-clause-rests
invariant_of-self-in-Idle-clause-rests g c = λ idle.
    none_to_send c.args.self.now c.requires.refresh c.work-worked.new.self c.in-Idle.ensures.idle_stays c.in-Idle.ensures.idle

pub returns-in-More-clause-sent : goal.returns-in-More-clause-sent
returns-in-More-clause-sent g c =
    let h = c.in-More.ensures.more in
    on_more c.work-worked.result _ c.in-More.is
    (refreshes_one c.args.self.now c.requires.refresh c.work-worked.new.self h.0 h.1 h.4 _ _ _ h.3 refl refl refl refl refl refl refl)
