use Rattle.std.proofs.Common.{◌≡◌, ◌∙◌, ◌+◌, ◌<◌, ℕ, length, get_or, slice_index, subst, arith, rules}
use Rattle.std.proofs.lemmas.List.{length-set, get_or_default}
use Rattle.pg_adj.proofs.HolderCounts.{holders_to, holders-le, counts_more}
use Rattle.pg_adj.proofs.holders.holder_counts.Goals as goal

pub overflow_add-index_mut : goal.overflow_add-index_mut
overflow_add-index_mut g c =
    let q : ℕ = c.owner-owner.result.0 in
    let below : q < length c.loop-k.counts.items = search rules in
    let was : c.index_mut.result.now ≡ get_or c.loop-k.counts.items q 0 = c.index_mut.ensures.value ∙ get_or_default c.loop-k.counts.items q _ 0 below in
    let held = c.loop-k.invariant.held q (omega (arith, c.loop-k.invariant.each)) in
    let few : c.index_mut.result.now + c.len.result < 4294967296 = omega (
      arith,
      was,
      held,
      c.requires.each,
      c.len.ensures.most,
      (g.met.D.Distribution.laws c.args.dist.now).n_within,
      holders-le c.args.sets.now (g.D.Distribution.sharing c.args.dist.now).owner q c.loop-k.k,
    ) in
    search rules

pub loop-k-preserved : goal.loop-k-preserved
loop-k-preserved g c =
    let q : ℕ = c.owner-owner.result.0 in
    let below : q < length c.loop-k.counts.items = search rules in
    let was : c.index_mut.result.now ≡ get_or c.loop-k.counts.items q 0 = c.index_mut.ensures.value ∙ get_or_default c.loop-k.counts.items q _ 0 below in
    record {
      each = length-set c.loop-k.counts.items q (c.index_mut.result.now + c.len.result) ∙ c.loop-k.invariant.each;
      held = counts_more c.args.sets.now (g.D.Distribution.sharing c.args.dist.now).owner (g.D.Distribution.sharing c.args.dist.now).ranks c.loop-k.k q c.index_mut.result.now c.len.result
          c.loop-k.counts.items c.owner-owner.ensures below was c.len.ensures.value c.loop-k.invariant.held c.loop-k.invariant.each;
    }

pub returns-clause-held : goal.returns-clause-held
returns-clause-held g c =
    let all : c.loop-k.k ≡ (g.D.Distribution.sharing c.args.dist.now).n = omega (arith, c.requires.each, c.loop-k.auto.k-end) in
    λ r l. subst (λ (k : ℕ). slice_index c.loop-k.counts.items r ≡ holders_to c.args.sets.now (g.D.Distribution.sharing c.args.dist.now).owner r k) all (c.loop-k.invariant.held r l)
