use Rattle.std.proofs.Common.{◌≡◌, ◌∙◌, [], ◌∷◌, Some, None, length, length-append, map, reverse, sym, ap, arith}
use Rattle.std.specs.Prelude.{slice_get}
use Rattle.pg_relax.specs.Shown.{IsNewRelax}
use Rattle.pg_run.proofs.Seating.{taken_over, each_reverse}
use Rattle.pg_top.specs.Paired.{hops_in, roots_in}
use Rattle.pg_top.proofs.PairRuns.{last_stands}
use Rattle.pg_top.proofs.pairs.pairs_of.Goals as goal

pub new-requires-clause-first_new : goal.new-requires-clause-first_new
new-requires-clause-first_new c κs =
    c.requires.new_hops (length c.pop.new.self.items) c.in-Some.first
    (last_stands c.args.hops.items c.loop-first.hops.items c.pop.new.self.items (map hops_in (reverse c.loop-first.pairs.items)) c.in-Some.first c.loop-first.invariant.hops c.in-Some.ensures.items)

pub new-requires-clause-second_new : goal.new-requires-clause-second_new
new-requires-clause-second_new c κs =
    c.requires.new_roots (length c.pop-in-Some.new.self.items) c.in-Some-pop.second
    (last_stands c.args.roots.items c.loop-first.roots.items c.pop-in-Some.new.self.items (map roots_in (reverse c.loop-first.pairs.items)) c.in-Some-pop.second c.loop-first.invariant.roots c.in-Some-pop.ensures.items)

pub new-requires-clause-same_rank : goal.new-requires-clause-same_rank
new-requires-clause-same_rank c κs =
    let first : slice_get c.args.hops.items (length c.pop.new.self.items) ≡ Some c.in-Some.first
    = last_stands c.args.hops.items c.loop-first.hops.items c.pop.new.self.items (map hops_in (reverse c.loop-first.pairs.items)) c.in-Some.first c.loop-first.invariant.hops c.in-Some.ensures.items in
    let second : slice_get c.args.roots.items (length c.pop-in-Some.new.self.items) ≡ Some c.in-Some-pop.second
    = last_stands c.args.roots.items c.loop-first.roots.items c.pop-in-Some.new.self.items (map roots_in (reverse c.loop-first.pairs.items)) c.in-Some-pop.second c.loop-first.invariant.roots c.in-Some-pop.ensures.items in
    let one = ap length c.in-Some.ensures.items ∙ length-append c.pop.new.self.items (c.in-Some.first ∷ []) in
    let two = ap length c.in-Some-pop.ensures.items ∙ length-append c.pop-in-Some.new.self.items (c.in-Some-pop.second ∷ []) in
    let same : length c.pop-in-Some.new.self.items ≡ length c.pop.new.self.items = omega (arith, one, two, c.loop-first.invariant.count) in
    (c.requires.ranks_of_roots (length c.pop-in-Some.new.self.items) c.in-Some-pop.second second ∙ same) ∙ sym (c.requires.ranks_of_hops (length c.pop.new.self.items) c.in-Some.first first)

pub new-requires-clause-same_size : goal.new-requires-clause-same_size
new-requires-clause-same_size c κs =
    let first : slice_get c.args.hops.items (length c.pop.new.self.items) ≡ Some c.in-Some.first
    = last_stands c.args.hops.items c.loop-first.hops.items c.pop.new.self.items (map hops_in (reverse c.loop-first.pairs.items)) c.in-Some.first c.loop-first.invariant.hops c.in-Some.ensures.items in
    let second : slice_get c.args.roots.items (length c.pop-in-Some.new.self.items) ≡ Some c.in-Some-pop.second
    = last_stands c.args.roots.items c.loop-first.roots.items c.pop-in-Some.new.self.items (map roots_in (reverse c.loop-first.pairs.items)) c.in-Some-pop.second c.loop-first.invariant.roots c.in-Some-pop.ensures.items in
    c.requires.sizes_of_roots (length c.pop-in-Some.new.self.items) c.in-Some-pop.second second ∙ sym (c.requires.sizes_of_hops (length c.pop.new.self.items) c.in-Some.first first)

pub loop-first-preserved : goal.loop-first-preserved
loop-first-preserved c =
    let inv = c.loop-first.invariant in
    let before = c.loop-first.pairs.items in
    let after = c.push_reserved.new.self.items in
    let pushed = c.push_reserved.ensures.items in
    let made = c.new.ensures in
    let one = ap length c.in-Some.ensures.items ∙ length-append c.pop.new.self.items (c.in-Some.first ∷ []) in
    let two = ap length c.in-Some-pop.ensures.items ∙ length-append c.pop-in-Some.new.self.items (c.in-Some-pop.second ∷ []) in
    let three = ap length pushed ∙ length-append before (c.new.result ∷ []) in
    record {
      hops = taken_over hops_in c.args.hops.items c.loop-first.hops.items c.pop.new.self.items c.in-Some.first before after c.new.result inv.hops c.in-Some.ensures.items pushed made.first;
      roots = taken_over roots_in c.args.roots.items c.loop-first.roots.items c.pop-in-Some.new.self.items c.in-Some-pop.second before after c.new.result inv.roots c.in-Some-pop.ensures.items pushed made.second;
      count = omega (arith, one, two, inv.count);
      fit = omega (arith, inv.fit, one, three, c.push_reserved.ensures.capacity);
      new = each_reverse (λ p. IsNewRelax (hops_in p) × IsNewRelax (roots_in p) × (p.vote ≡ None)) before after c.new.result pushed made.new inv.new;
    }
