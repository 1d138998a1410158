use Rattle.std.proofs.Common.{arith, rules, ap, subst, sym, length, get_or, map, List, ℕ, ◌≡◌, ◌∙◌, ◌≤◌, ◌+◌, ◌∷◌, ◌++◌, [], refl}
use Rattle.std.proofs.lemmas.List.{length_push}
use Rattle.pg_adj.specs.declared.arcs.Ghost.{Ghost}
use Rattle.pg_adj.specs.Portions.{Portion}
use Rattle.pg_dist.specs.Sharing.{Sharing, IsSharing}
use Rattle.pg_adj.specs.Division.{IsPartOf}
use Rattle.pg_adj.specs.Shares.{ghost_lists}
use Rattle.pg_adj.proofs.Sharings.{each_push}
use Rattle.pg_adj.proofs.PartsOf.{AreSharesOf, portion_of, part_is, portion_ok, lists_more}
use Rattle.pg_adj.proofs.SideBySide.{next_pair, yielded_more, yielded_all}
use Rattle.pg_adj.proofs.splitting.joined.Goals as goal

pub loop-share-init : goal.loop-share-init
loop-share-init g c = record {
  count = ap length c.in_ok-parts.ensures.items;
  part = λ r d l. absurd (omega arith);
  ghosts = ap (λ (qs : List Portion). map (λ q. q.ghosts) qs) c.in_ok-parts.ensures.items;
  yielded = search rules;
}

pub overflow_cast-rank : goal.overflow_cast-rank
overflow_cast-rank g c =
    let next = next_pair c.args.shares.items c.args.holders.items c.loop-share.yielded c.loop-share.share-iterator c.loop-share.invariant.yielded c.in-Some.share c.in-Some.rows c.next.new.self
    c.in-Some.ensures.steps in
    let few : c.len-in-loop-share.result ≤ 32 =
    omega (arith, next.0.below, c.requires.count, c.requires.few, c.loop-share.invariant.count, c.len-in-loop-share.ensures) in
    search rules

pub of_share-requires : goal.of_share-requires
of_share-requires g c =
    let s : Sharing = g.D.Distribution.sharing c.args.dist.now in
    let laws : IsSharing s = g.met.D.Distribution.laws c.args.dist.now in
    let are : AreSharesOf s c.args.graph.now.edges c.args.shares.items = record { each = c.requires.count; share = c.requires.share } in
    let next = next_pair c.args.shares.items c.args.holders.items c.loop-share.yielded c.loop-share.share-iterator c.loop-share.invariant.yielded c.in-Some.share c.in-Some.rows c.next.new.self
    c.in-Some.ensures.steps in
    let r : ℕ = length c.loop-share.yielded in
    let index : c.len-in-loop-share.result ≡ r = omega (arith, c.loop-share.invariant.count, c.len-in-loop-share.ensures) in
    let p : Portion = portion_of c.len-in-loop-share.result c.ranks.result c.n.result c.in-Some.share c.in-Some.rows in
    let part : IsPartOf s c.args.graph.now (ghost_lists c.args.shares.items) r p =
    part_is s c.args.graph.now c.n.ensures.graph c.args.shares.items are c.args.holders.items c.requires.holders r
    c.len-in-loop-share.result c.ranks.result c.n.result index c.ranks.ensures c.n.ensures.value c.in-Some.share c.in-Some.rows next.0 next.1 in
    portion_ok s laws c.args.graph.now c.n.ensures.graph c.requires.n c.args.shares.items are r (omega (arith, next.0.below, c.requires.count)) p part

pub loop-share-preserved : goal.loop-share-preserved
loop-share-preserved g c =
    let s : Sharing = g.D.Distribution.sharing c.args.dist.now in
    let are : AreSharesOf s c.args.graph.now.edges c.args.shares.items = record { each = c.requires.count; share = c.requires.share } in
    let next = next_pair c.args.shares.items c.args.holders.items c.loop-share.yielded c.loop-share.share-iterator c.loop-share.invariant.yielded c.in-Some.share c.in-Some.rows c.next.new.self
    c.in-Some.ensures.steps in
    let r : ℕ = length c.loop-share.yielded in
    let index : c.len-in-loop-share.result ≡ r = omega (arith, c.loop-share.invariant.count, c.len-in-loop-share.ensures) in
    let p : Portion = portion_of c.len-in-loop-share.result c.ranks.result c.n.result c.in-Some.share c.in-Some.rows in
    let part : IsPartOf s c.args.graph.now (ghost_lists c.args.shares.items) r p =
    part_is s c.args.graph.now c.n.ensures.graph c.args.shares.items are c.args.holders.items c.requires.holders r
    c.len-in-loop-share.result c.ranks.result c.n.result index c.ranks.ensures c.n.ensures.value c.in-Some.share c.in-Some.rows next.0 next.1 in
    let parts : List Portion = c.loop-share.parts.items in
    let pushed : c.push.new.self.items ≡ parts ++ p ∷ [] =
    subst (λ (q : Portion). c.push.new.self.items ≡ parts ++ q ∷ []) c.of_share.ensures c.in_ok-push.ensures.items in
    let size : length (c.loop-share.yielded ++ (c.in-Some.share, c.in-Some.rows) ∷ []) ≡ r + 1 = length_push c.loop-share.yielded (c.in-Some.share, c.in-Some.rows) in
    let more = each_push (λ (i : ℕ) (q : Portion). IsPartOf s c.args.graph.now (ghost_lists c.args.shares.items) i q) parts c.push.new.self.items p r
    c.loop-share.invariant.count c.loop-share.invariant.part part pushed in
    record {
      count = omega (arith, ap length pushed, length_push parts p, size, c.loop-share.invariant.count);
      part = λ i d l. more i d (omega (arith, size));
      ghosts = lists_more parts c.push.new.self.items p c.loop-share.yielded c.in-Some.share c.in-Some.rows pushed c.loop-share.invariant.ghosts refl;
      yielded = yielded_more c.args.shares.items c.args.holders.items c.loop-share.yielded c.loop-share.share-iterator c.loop-share.invariant.yielded c.in-Some.share c.in-Some.rows
          c.next.new.self c.in-Some.ensures.steps;
    }

pub returns : goal.returns
returns g c =
    let s : Sharing = g.D.Distribution.sharing c.args.dist.now in
    let all = yielded_all c.args.shares.items c.args.holders.items c.loop-share.yielded c.loop-share.share-iterator c.loop-share.invariant.yielded (c.requires.count ∙ sym c.requires.each)
    c.in-None.ensures.steps in
    let lists : map (λ (q : Portion). q.ghosts) c.loop-share.parts.items ≡ ghost_lists c.args.shares.items = c.loop-share.invariant.ghosts ∙ ap ghost_lists all.1 in
    record {
      count = omega (arith, c.loop-share.invariant.count, all.0, c.requires.count);
      part = λ r d l. subst (λ (gs : List (List Ghost)). IsPartOf s c.args.graph.now gs r (get_or c.loop-share.parts.items r d)) (sym lists)
          (c.loop-share.invariant.part r d (omega (arith, all.0, c.requires.count)));
    }
