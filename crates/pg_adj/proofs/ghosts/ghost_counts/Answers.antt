use Rattle.std.proofs.Common.{◌≡◌, ◌∙◌, ◌+◌, ◌<◌, ℕ, List, All, length, get_or, ap, sym, subst, arith}
use Rattle.std.specs.Vec.{with_items}
use Rattle.std.proofs.lemmas.List.{with_items_is, get_or_default}
use Rattle.pg_adj.specs.RankSets.{has, members, no_ranks, ranks_holding}
use Rattle.pg_adj.proofs.HolderRows.{held_next, kept-le}
use Rattle.pg_adj.proofs.Members.{one_if}
use Rattle.pg_adj.proofs.ghosts.ghost_counts.Goals as goal

pub count_members-requires-clause-ranks : goal.count_members-requires-clause-ranks
count_members-requires-clause-ranks c =
    let size : c.args.ranks ≡ length c.deref_mut.result.now = sym (ap length c.deref_mut.ensures.value ∙ c.loop-set.invariant.each) in
    subst (λ (n : ℕ). All (λ r. r < n) (members (get_or c.args.sets.now c.loop-set.set-index no_ranks))) size (c.requires.ranks c.loop-set.set-index no_ranks (omega arith))

pub count_members-requires-clause-fits : goal.count_members-requires-clause-fits
count_members-requires-clause-fits c = λ k d l.
    let few = c.requires.few in
    let below : k < c.args.ranks = omega (arith, ap length c.deref_mut.ensures.value, c.loop-set.invariant.each) in
    let at : get_or c.deref_mut.result.now k d ≡ get_or c.loop-set.counts.items k 0 = get_or_default c.deref_mut.result.now k d 0 l ∙ ap (λ (xs : List ℕ). get_or xs k 0) c.deref_mut.ensures.value in
    omega (arith, at, few, c.loop-set.invariant.held k below, kept-le (λ v. has (ranks_holding c.args.sets.now v) k) c.loop-set.set-index)

pub loop-set-preserved : goal.loop-set-preserved
loop-set-preserved c =
    let done : List ℕ = c.count_members.new.counts in
    let size : length done ≡ length c.loop-set.counts.items = c.count_members.ensures.each ∙ ap length c.deref_mut.ensures.value in
    let put : (with_items c.loop-set.counts done).items ≡ done = with_items_is c.loop-set.counts done (omega (arith, size, c.loop-set.counts.ok.0)) in
    record {
      each = ap length put ∙ (size ∙ c.loop-set.invariant.each);
      held = λ r l.
          let below : r < length c.deref_mut.result.now = omega (arith, ap length c.deref_mut.ensures.value, c.loop-set.invariant.each) in
          ap (λ (xs : List ℕ). get_or xs r 0) put
          ∙ (c.count_members.ensures.counted r below
          ∙ (ap (λ (xs : List ℕ). get_or xs r 0 + one_if (has (get_or c.args.sets.now c.loop-set.set-index no_ranks) r)) c.deref_mut.ensures.value
          ∙ (ap (λ (j : ℕ). j + one_if (has (get_or c.args.sets.now c.loop-set.set-index no_ranks) r)) (c.loop-set.invariant.held r l)
          ∙ sym (held_next c.args.sets.now r c.loop-set.set-index))));
    }
