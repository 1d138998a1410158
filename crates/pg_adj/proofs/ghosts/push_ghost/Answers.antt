use Rattle.std.proofs.Common.{ℕ, ◌<◌, ◌∙◌, ◌++◌, ◌∷◌, [], length, get_or, vec_capacity, ap, refl, arith}
use Rattle.std.proofs.lemmas.List.{get_or_default}
use Rattle.pg_adj.specs.declared.ghosts.GhostList.{GhostList}
use Rattle.pg_adj.proofs.Members.{IsTaken, taken_below, left_below, fewer_left, was_there}
use Rattle.pg_adj.proofs.GhostLists.{none_pushed, one_pushed, all_pushed, room_left, room_stays}
use Rattle.pg_adj.proofs.ghosts.push_ghost.Goals as goal
use Rattle.pg_adj.proofs.ghosts.push_ghost.Goals.{In-Some}

taken : (c : In-Some) → IsTaken c.in-Some.rank.0 c.loop-rank.rest c.pop_first.new.self
taken c = record { lowest = c.in-Some.ensures.lowest; taken = c.in-Some.ensures.taken; others = c.in-Some.ensures.others }

pub loop-rank-init : goal.loop-rank-init
loop-rank-init c = record {
  within = λ r h. h;
  below = c.requires.ranks;
  pushed = λ r d l. none_pushed c.args.set c.args.held c.args.lists.now r d;
  room = λ r d l. refl;
}

pub bounds-lists-rank : goal.bounds-lists-rank
bounds-lists-rank c =
    let h = taken (goal.at.bounds-lists-rank c).In-Some in
    omega (arith, taken_below c.in-Some.rank.0 _ c.loop-rank.rest c.pop_first.new.self h c.loop-rank.invariant.below)

pub push_reserved-requires : goal.push_reserved-requires
push_reserved-requires c =
    let q : ℕ = c.in-Some.rank.0 in
    let h = taken (goal.at.push_reserved-requires c).In-Some in
    let below : q < length c.args.lists.now = taken_below q _ c.loop-rank.rest c.pop_first.new.self h c.loop-rank.invariant.below in
    let list : GhostList = get_or c.loop-rank.lists q c.index-lists-rank.result in
    omega (
      arith,
      list.ghosts.ok.0,
      room_left c.args.set c.loop-rank.rest c.pop_first.new.self q c.args.held c.args.lists.now c.loop-rank.lists c.index-lists-rank.result h below
          (c.loop-rank.invariant.within q h.taken) c.requires.room c.loop-rank.invariant.pushed c.loop-rank.invariant.room,
    )

pub loop-rank-smaller : goal.loop-rank-smaller
loop-rank-smaller c = fewer_left c.in-Some.rank.0 c.loop-rank.rest c.pop_first.new.self (taken (goal.at.loop-rank-smaller c).In-Some)

pub loop-rank-preserved : goal.loop-rank-preserved
loop-rank-preserved c =
    let q : ℕ = c.in-Some.rank.0 in
    let h = taken (goal.at.loop-rank-preserved c).In-Some in
    let below : q < length c.loop-rank.lists = omega (arith, taken_below q _ c.loop-rank.rest c.pop_first.new.self h c.loop-rank.invariant.below) in
    record {
      within = λ r there. c.loop-rank.invariant.within r (was_there q r c.loop-rank.rest c.pop_first.new.self h there);
      below = left_below q _ c.loop-rank.rest c.pop_first.new.self h c.loop-rank.invariant.below;
      pushed = one_pushed c.args.set c.loop-rank.rest c.pop_first.new.self q c.args.held c.args.lists.now c.loop-rank.lists (record { ghosts = c.push_reserved.new.self }) h
          below (c.loop-rank.invariant.within q h.taken)
          (λ d. c.push_reserved.ensures.items ∙ ap (λ (x : GhostList). x.ghosts.items ++ c.args.held ∷ []) (get_or_default c.loop-rank.lists q c.index-lists-rank.result d below))
          c.loop-rank.invariant.pushed;
      room = room_stays q c.args.lists.now c.loop-rank.lists (record { ghosts = c.push_reserved.new.self }) below
          (λ d. c.push_reserved.ensures.capacity ∙ ap (λ (x : GhostList). vec_capacity x.ghosts) (get_or_default c.loop-rank.lists q c.index-lists-rank.result d below))
          c.loop-rank.invariant.room;
    }

pub returns-clause-pushed : goal.returns-clause-pushed
returns-clause-pushed c = λ r d l. all_pushed c.args.set c.loop-rank.rest c.args.held c.args.lists.now r d _ (c.in_default.ensures.has_none refl r) (c.loop-rank.invariant.pushed r d l)
