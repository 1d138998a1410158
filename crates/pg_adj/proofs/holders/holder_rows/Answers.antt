use Rattle.std.proofs.Common.{◌≡◌, ◌<◌, ◌∙◌, ℕ, List, All, length, get_or, subst, ap, arith, rules, slice_index_or}
use Rattle.std.proofs.lemmas.List.{with_items_is}
use Rattle.pg_dist.specs.Sharing.{Sharing, IsSharing}
use Rattle.pg_adj.specs.RankSets.{members, no_ranks}
use Rattle.pg_adj.proofs.HolderRows.{none_filled, slots_fit, holders_small, room_for_next, room_stays, more_filled, all_filled}
use Rattle.pg_adj.proofs.holders.holder_rows.Given.{Over}
use Rattle.pg_adj.proofs.holders.holder_rows.Goals as goal

abbrev sharing : (g : Over) → g.row.D.Denot → Sharing
sharing g dist = g.D.Distribution.sharing dist

laws_of : (g : Over) (dist : g.row.D.Denot) → IsSharing (sharing g dist)
laws_of g dist = g.met.D.Distribution.laws dist

pub loop-k-init : goal.loop-k-init
loop-k-init g c =
    let s : Sharing = sharing g c.args.dist.now in
    let laws : IsSharing s = laws_of g c.args.dist.now in
    let each : length c.in_ok-rows.rows.items ≡ s.ranks = omega (arith, c.in_ok-rows.ensures.each, ap length c.deref.ensures.value, c.in_ok-holder_counts.ensures.each) in
    record {
      filled = none_filled s laws c.args.sets.now c.len.result c.in_ok-rows.rows.items c.in_ok-next_slots.next_slots.items each
          (λ r d l. c.in_ok-rows.ensures.row r d (omega (arith, c.in_ok-rows.ensures.each))) (λ r d l. c.in_ok-rows.ensures.empty r d (omega (arith, c.in_ok-rows.ensures.each)))
          (omega (arith, c.len.ensures, c.in_ok-rows.rows.ok.0)) (c.in_ok-next_slots.ensures.items_if_clones_equal (λ y same. same));
      room = record {
        places = λ r d l. c.in_ok-rows.ensures.places r d (omega (arith, each, c.in_ok-rows.ensures.each));
        holders = λ r d l. c.in_ok-rows.ensures.room r d (omega (arith, each, c.in_ok-rows.ensures.each)) ∙ (ap (λ (xs : List ℕ). get_or xs r 0) c.deref.ensures.value
            ∙ c.in_ok-holder_counts.ensures.held r l);
      };
    }

pub push_holders-requires-clause-ranks : goal.push_holders-requires-clause-ranks
push_holders-requires-clause-ranks g c =
    let each : (g.D.Distribution.sharing c.args.dist.now).ranks ≡ length c.deref_mut.result.now = omega (arith, ap length c.deref_mut.ensures.value, c.loop-k.invariant.filled.each_slot) in
    subst (λ (n : ℕ). All (λ r. r < n) (members (slice_index_or c.args.sets.now c.loop-k.k no_ranks))) each (c.requires.ranks c.loop-k.k no_ranks (omega arith))

pub push_holders-requires-clause-fits : goal.push_holders-requires-clause-fits
push_holders-requires-clause-fits g c =
    let s : Sharing = sharing g c.args.dist.now in
    let laws : IsSharing s = laws_of g c.args.dist.now in
    slots_fit s laws c.args.sets.now c.loop-k.k c.loop-k.rows.items c.loop-k.next_slots.items c.deref_mut.result.now c.loop-k.invariant.filled (omega (arith, c.requires.each)) c.deref_mut.ensures.value

pub push_holders-requires-clause-small : goal.push_holders-requires-clause-small
push_holders-requires-clause-small g c =
    let s : Sharing = sharing g c.args.dist.now in
    let laws : IsSharing s = laws_of g c.args.dist.now in
    holders_small s laws c.args.sets.now c.loop-k.k c.owner-owner.result.0 c.loop-k.rows.items c.loop-k.next_slots.items c.index_mut.result.now c.loop-k.invariant.filled
    (omega (arith, c.requires.each)) c.owner-owner.ensures c.index_mut.ensures.value

pub push_holders-requires-clause-place : goal.push_holders-requires-clause-place
push_holders-requires-clause-place g c =
    let s : Sharing = sharing g c.args.dist.now in
    let laws : IsSharing s = laws_of g c.args.dist.now in
    (room_for_next s laws c.args.sets.now c.loop-k.k c.owner-owner.result.0 c.loop-k.rows.items c.loop-k.next_slots.items c.index_mut.result.now c.loop-k.invariant.filled
    c.loop-k.invariant.room (omega (arith, c.requires.each)) c.owner-owner.ensures c.index_mut.ensures.value).0

pub push_holders-requires-clause-room : goal.push_holders-requires-clause-room
push_holders-requires-clause-room g c =
    let s : Sharing = sharing g c.args.dist.now in
    let laws : IsSharing s = laws_of g c.args.dist.now in
    (room_for_next s laws c.args.sets.now c.loop-k.k c.owner-owner.result.0 c.loop-k.rows.items c.loop-k.next_slots.items c.index_mut.result.now c.loop-k.invariant.filled
    c.loop-k.invariant.room (omega (arith, c.requires.each)) c.owner-owner.ensures c.index_mut.ensures.value).1

pub loop-k-preserved : goal.loop-k-preserved
loop-k-preserved g c =
    let s : Sharing = sharing g c.args.dist.now in
    let laws : IsSharing s = laws_of g c.args.dist.now in
    let size : length c.push_holders.new.next_slots ≡ c.loop-k.next_slots.len = omega (arith, c.push_holders.ensures.each, ap length c.deref_mut.ensures.value, c.loop-k.next_slots.ok.0) in
    let whole = with_items_is c.loop-k.next_slots c.push_holders.new.next_slots size in
    let inside : c.owner-owner.result.0 < length c.loop-k.rows.items = search rules in
    record {
      filled = more_filled s laws c.args.sets.now c.loop-k.k c.owner-owner.result.0 c.loop-k.rows.items c.loop-k.next_slots.items c.deref_mut.result.now _ c.index_mut.result.now
          c.push_holders.new.rows (c.requires.ranks c.loop-k.k no_ranks (omega arith)) (omega (arith, c.requires.each)) c.owner-owner.ensures c.loop-k.invariant.filled c.index_mut.ensures.value
          c.deref_mut.ensures.value c.push_holders.ensures.holders c.push_holders.ensures.bounds
          (ap length whole ∙ c.push_holders.ensures.each) (λ q l. ap (λ (xs : List ℕ). get_or xs q 0) whole ∙ c.push_holders.ensures.next_slots q l);
      room = room_stays s c.args.sets.now c.loop-k.rows.items c.owner-owner.result.0 c.index_mut.result.now c.push_holders.new.rows c.loop-k.invariant.room inside c.index_mut.ensures.value
          c.push_holders.ensures.places c.push_holders.ensures.room;
    }

pub returns-clause-row : goal.returns-clause-row
returns-clause-row g c =
    let s : Sharing = sharing g c.args.dist.now in
    let laws : IsSharing s = laws_of g c.args.dist.now in
    all_filled s laws c.args.sets.now c.loop-k.k c.loop-k.rows.items c.loop-k.next_slots.items c.loop-k.invariant.filled (omega (arith, c.requires.each, c.loop-k.auto.k-end))
