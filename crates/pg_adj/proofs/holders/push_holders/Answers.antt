use Rattle.std.proofs.Common.{◌<◌, ◌+◌, ◌∷◌, [], ◌++◌, ◌∙◌, ℕ, refl, get_or, vec_len, vec_capacity, ap, arith, rules}
use Rattle.pg_adj.proofs.Members.{IsTaken, next_below, not_counted, all_counted}
use Rattle.pg_adj.proofs.PushHolders.{none_pushed, one_pushed, all_held, few_pushed, one_comes}
use Rattle.pg_adj.proofs.holders.push_holders.Goals as goal
use Rattle.pg_adj.proofs.holders.push_holders.Goals.{In-Some}

taken : (c : In-Some) → IsTaken c.in-Some.rank.0 c.loop-rank.rest c.pop_first.new.self
taken c = record { lowest = c.in-Some.ensures.lowest; taken = c.in-Some.ensures.taken; others = c.in-Some.ensures.others }

pub loop-rank-init : goal.loop-rank-init
loop-rank-init c = record {
  pushed = none_pushed c.args.set c.args.next_slots.now c.args.rows.now.holders.items c.requires.ranks;
  bounds = refl;
  room = refl;
}

pub bounds-next_slots-rank : goal.bounds-next_slots-rank
bounds-next_slots-rank c = omega (arith, next_below c.loop-rank.invariant.pushed.moved (taken (goal.at.bounds-next_slots-rank c).In-Some), c.loop-rank.auto.next_slots)

pub push_reserved-requires : goal.push_reserved-requires
push_reserved-requires c =
    let more = one_comes c.loop-rank.invariant.pushed (taken (goal.at.push_reserved-requires c).In-Some) in
    omega (arith, c.loop-rank.rows.holders.ok.0, more, c.requires.room, c.loop-rank.invariant.room)

pub push_reserved-requires-2 : goal.push_reserved-requires-2
push_reserved-requires-2 c = omega (arith, c.args.rows.now.bounds.ok.0, ap (λ v. vec_len v) c.loop-rank.invariant.bounds, ap (λ v. vec_capacity v) c.loop-rank.invariant.bounds, c.requires.place)

pub overflow_add-next_slots : goal.overflow_add-next_slots
overflow_add-next_slots c =
    let here = taken (goal.at.overflow_add-next_slots c).In-Some in
    let same = not_counted c.loop-rank.invariant.pushed.moved here in
    let below = next_below c.loop-rank.invariant.pushed.moved here in
    let few : get_or c.loop-rank.next_slots c.in-Some.rank.0 0 + 1 < 4294967296 = omega (arith, same, c.requires.fits c.in-Some.rank.0 0 below) in
    search rules

pub bounds-next_slots-rank-in-Some : goal.bounds-next_slots-rank-in-Some
bounds-next_slots-rank-in-Some c = omega (arith, next_below c.loop-rank.invariant.pushed.moved (taken (goal.at.bounds-next_slots-rank-in-Some c).In-Some), c.loop-rank.auto.next_slots)

pub loop-rank-preserved : goal.loop-rank-preserved
loop-rank-preserved c = record {
  pushed = one_pushed c.loop-rank.invariant.pushed (taken (goal.at.loop-rank-preserved c).In-Some) c.push_reserved.ensures.items;
  bounds = c.loop-rank.invariant.bounds;
  room = c.push_reserved.ensures.capacity ∙ c.loop-rank.invariant.room;
}

pub overflow_cast-len : goal.overflow_cast-len
overflow_cast-len c =
    let few : c.len.result < 4294967296 = omega (arith, c.len.ensures, c.loop-rank.rows.holders.ok.0, few_pushed c.loop-rank.invariant.pushed, c.requires.small) in
    search rules

pub returns-clause-holders : goal.returns-clause-holders
returns-clause-holders c = all_held c.loop-rank.invariant.pushed (c.in_default.ensures.no_members refl)

pub returns-clause-bounds : goal.returns-clause-bounds
returns-clause-bounds c =
    c.push_reserved-2.ensures.items
    ∙ (ap (λ v. v.items ++ c.len.result ∷ []) c.loop-rank.invariant.bounds ∙ ap (λ (n : ℕ). c.args.rows.now.bounds.items ++ n ∷ []) (omega (arith, c.len.ensures)))

pub returns-clause-next_slots : goal.returns-clause-next_slots
returns-clause-next_slots c = all_counted c.loop-rank.invariant.pushed.moved (c.in_default.ensures.has_none refl)

pub returns-clause-places : goal.returns-clause-places
returns-clause-places c = c.push_reserved-2.ensures.capacity ∙ ap (λ v. vec_capacity v) c.loop-rank.invariant.bounds

pub returns-clause-room : goal.returns-clause-room
returns-clause-room c = c.loop-rank.invariant.room
