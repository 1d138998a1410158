use Rattle.std.proofs.Common.{◌≡◌, ◌∙◌, ℕ, ◌+◌, ◌≤◌, All, length, refl, sym, subst, arith}
use Rattle.pg_boruvka.specs.Arcs.{IsInTables}
use Rattle.pg_boruvka.proofs.Unhooked.{unhooked_targets, unhooked_edges, own_within, none_within, zeros_within}
use Rattle.pg_boruvka.proofs.tables.Tables.new.Goals as goal

pub invariant_of-result : goal.invariant_of-result
invariant_of-result c =
    let hooks = c.in_ok-hooks.ensures in
    let labels = c.in_ok-labels.ensures in
    let keys = c.in_ok-keys.ensures in
    let winners = c.in_ok-winners.ensures in
    let across = c.in_ok-across.ensures in
    let marks = c.in_ok-chosen.ensures in
    record {
      some = omega (arith, labels.each);
      few = omega (arith, labels.each, c.requires.few);
      few_edges = omega (arith, marks.each, c.requires.few_edges);
      each_key = keys.each ∙ sym labels.each;
      each_across = across.each ∙ sym labels.each;
      each_winner = winners.each ∙ sym labels.each;
      each_target = hooks.targets ∙ sym labels.each;
      each_hook = hooks.edges ∙ sym labels.each;
      arcs_in = subst (λ (x : ℕ). All (IsInTables x (length c.in_ok-chosen.chosen.items)) c.args.arcs.items) (sym labels.each)
          (subst (λ (x : ℕ). All (IsInTables (c.args.n + 1) x) c.args.arcs.items) (sym marks.each) c.requires.ends);
      labels_in = own_within c.in_ok-labels.labels.items (length c.in_ok-labels.labels.items) refl labels.own;
      keys_in = none_within (length c.in_ok-chosen.chosen.items) c.in_ok-keys.keys.items keys.none;
      across_in = zeros_within c.in_ok-across.across.items (length c.in_ok-labels.labels.items) (omega (arith, labels.each)) across.none;
      targets_in = unhooked_targets c.in_ok-hooks.hooks.targets.items c.in_ok-hooks.hooks.edges.items (length c.in_ok-labels.labels.items) hooks.unhooked (hooks.targets ∙ sym labels.each);
      hooks_in = unhooked_edges c.in_ok-hooks.hooks.targets.items c.in_ok-hooks.hooks.edges.items (length c.in_ok-chosen.chosen.items) hooks.unhooked;
    }
