use Rattle.std.proofs.Common.{◌+◌, ◌<◌, get_or, refl, arith, rules}
use Rattle.pg_adj.proofs.Members.{IsTaken, none_counted, next_below, not_counted, one_counted, all_counted, fewer_left}
use Rattle.pg_adj.proofs.ghosts.count_members.Goals as goal
use Rattle.pg_adj.proofs.ghosts.count_members.Goals.{In-Some}

taken : (c : In-Some) → IsTaken c.in-Some.rank.0 c.loop-rank.rest c.pop_first.new.self
taken c = record { lowest = c.in-Some.ensures.lowest; taken = c.in-Some.ensures.taken; others = c.in-Some.ensures.others }

pub loop-rank-init : goal.loop-rank-init
loop-rank-init c = none_counted c.args.set c.args.counts.now c.requires.ranks

pub bounds-counts-rank : goal.bounds-counts-rank
bounds-counts-rank c = omega (arith, next_below c.loop-rank.invariant (taken (goal.at.bounds-counts-rank c).In-Some), c.loop-rank.invariant.each)

pub overflow_add-counts : goal.overflow_add-counts
overflow_add-counts c =
    let here = taken (goal.at.overflow_add-counts c).In-Some in
    let below = next_below c.loop-rank.invariant here in
    let few : get_or c.loop-rank.counts c.in-Some.rank.0 0 + 1 < 4294967296 = omega (arith, not_counted c.loop-rank.invariant here, c.requires.fits c.in-Some.rank.0 0 below) in
    search rules

pub bounds-counts-rank-in-Some : goal.bounds-counts-rank-in-Some
bounds-counts-rank-in-Some c = omega (arith, next_below c.loop-rank.invariant (taken (goal.at.bounds-counts-rank-in-Some c).In-Some), c.loop-rank.invariant.each)

pub loop-rank-smaller : goal.loop-rank-smaller
loop-rank-smaller c = fewer_left c.in-Some.rank.0 c.loop-rank.rest c.pop_first.new.self (taken (goal.at.loop-rank-smaller c).In-Some)

pub loop-rank-preserved : goal.loop-rank-preserved
loop-rank-preserved c = one_counted c.loop-rank.invariant (taken (goal.at.loop-rank-preserved c).In-Some)

pub returns-clause-counted : goal.returns-clause-counted
returns-clause-counted c = all_counted c.loop-rank.invariant (c.in_default.ensures.has_none refl)
