use Rattle.std.proofs.Common.{arith, rules, ap, length, List, ℕ, ◌≡◌, ◌∙◌, ◌≤◌, ◌<◌, ◌+◌, ◌∷◌, ◌++◌, [], refl}
use Rattle.std.specs.Vec.Iter.{into_iter_items}
use Rattle.std.proofs.lemmas.List.{length_push}
use Rattle.pg_adj.specs.declared.ghosts.GhostList.{GhostList}
use Rattle.pg_adj.specs.declared.shares.Share.{Share}
use Rattle.pg_dist.specs.Sharing.{Sharing}
use Rattle.pg_adj.proofs.Sharings.{each_push}
use Rattle.pg_adj.proofs.SharesOf.{IsOfRank, of_rank, ghosts_of_list}
use Rattle.pg_adj.proofs.SideBySide.{next_pair, yielded_more, yielded_all}
use Rattle.pg_adj.proofs.shares.shares_of.Goals as goal

pub loop-own-init : goal.loop-own-init
loop-own-init g c = record {
  count = ap length c.in_ok-shares.ensures.items;
  share = λ r d l. absurd (omega arith);
  yielded = search rules;
}

pub overflow_cast-rank : goal.overflow_cast-rank
overflow_cast-rank g c =
    let lists : List GhostList = into_iter_items c.into_iter-own-iterator.result.b in
    let next = next_pair c.args.rows.items lists c.loop-own.yielded c.loop-own.own-iterator c.loop-own.invariant.yielded c.in-Some.own c.in-Some.list c.next.new.self
    c.in-Some.ensures.steps in
    let few : c.len-in-loop-own.result ≤ 32 = omega (arith, next.0.below, c.requires.count, c.requires.few, c.loop-own.invariant.count, c.len-in-loop-own.ensures) in
    search rules

pub own_vertices-requires : goal.own_vertices-requires
own_vertices-requires g c =
    let lists : List GhostList = into_iter_items c.into_iter-own-iterator.result.b in
    let next = next_pair c.args.rows.items lists c.loop-own.yielded c.loop-own.own-iterator c.loop-own.invariant.yielded c.in-Some.own c.in-Some.list c.next.new.self
    c.in-Some.ensures.steps in
    omega (arith, next.0.below, c.requires.count, c.loop-own.invariant.count, c.len-in-loop-own.ensures)

pub loop-own-preserved : goal.loop-own-preserved
loop-own-preserved g c =
    let s : Sharing = g.D.Distribution.sharing c.args.dist.now in
    let lists : List GhostList = into_iter_items c.into_iter-own-iterator.result.b in
    let next = next_pair c.args.rows.items lists c.loop-own.yielded c.loop-own.own-iterator c.loop-own.invariant.yielded c.in-Some.own c.in-Some.list c.next.new.self
    c.in-Some.ensures.steps in
    let same : lists ≡ c.in_ok-lists.lists.items = ap (λ z. into_iter_items z.b) c.into_iter-own-iterator.ensures.into_iter_gives ∙ c.zip-own-items.ensures.second.0 in
    let r : ℕ = length c.loop-own.yielded in
    let z : GhostList = c.in-Some.list in
    let y : Share = record { vertices = c.in_ok-own_vertices.field-0; rows = c.in-Some.own; ghosts = z.ghosts } in
    let index : c.len-in-loop-own.result ≡ r = omega (arith, c.loop-own.invariant.count, c.len-in-loop-own.ensures) in
    let rank : r < s.ranks = omega (arith, next.0.below, c.requires.count) in
    let ghosts = ghosts_of_list s c.args.sets.now lists c.in_ok-lists.lists.items r z same next.1 (c.in_ok-lists.ensures.list r z rank) in
    let share : IsOfRank s c.args.rows.items c.args.sets.now r y = of_rank s c.args.rows.items c.args.sets.now r c.len-in-loop-own.result c.in-Some.own y index next.0
    c.in_ok-own_vertices.ensures.count c.in_ok-own_vertices.ensures.each refl ghosts in
    let pushed : c.push.new.self.items ≡ c.loop-own.shares.items ++ y ∷ [] = c.in_ok-push.ensures.items in
    let size : length (c.loop-own.yielded ++ (c.in-Some.own, z) ∷ []) ≡ r + 1 = length_push c.loop-own.yielded (c.in-Some.own, z) in
    let more = each_push (IsOfRank s c.args.rows.items c.args.sets.now) c.loop-own.shares.items c.push.new.self.items y r
    c.loop-own.invariant.count c.loop-own.invariant.share share pushed in
    record {
      count = omega (arith, ap length pushed, length_push c.loop-own.shares.items y, size, c.loop-own.invariant.count);
      share = λ i d l. more i d (omega (arith, size));
      yielded = yielded_more c.args.rows.items lists c.loop-own.yielded c.loop-own.own-iterator c.loop-own.invariant.yielded c.in-Some.own z c.next.new.self c.in-Some.ensures.steps;
    }

pub returns : goal.returns
returns g c =
    let lists : List GhostList = into_iter_items c.into_iter-own-iterator.result.b in
    let same : lists ≡ c.in_ok-lists.lists.items = ap (λ z. into_iter_items z.b) c.into_iter-own-iterator.ensures.into_iter_gives ∙ c.zip-own-items.ensures.second.0 in
    let size : length c.args.rows.items ≡ length lists = omega (arith, ap length same, c.requires.count, c.in_ok-lists.ensures.count) in
    let all = yielded_all c.args.rows.items lists c.loop-own.yielded c.loop-own.own-iterator c.loop-own.invariant.yielded size c.in-None.ensures.steps in
    let count : length c.loop-own.yielded ≡ (g.D.Distribution.sharing c.args.dist.now).ranks = all.0 ∙ c.requires.count in
    record {
      count = c.loop-own.invariant.count ∙ count;
      own = λ r d l. (c.loop-own.invariant.share r d (omega (arith, count))).count;
      vertex = λ r i d l m. (c.loop-own.invariant.share r d (omega (arith, count))).vertex i m;
      rows = λ r d e l. (c.loop-own.invariant.share r d (omega (arith, count))).own e;
      ghosts = λ r d l. (c.loop-own.invariant.share r d (omega (arith, count))).ghosts;
    }
