use Rattle.std.proofs.Common.{◌≡◌, ◌∙◌, length}
use Rattle.pg_boruvka.proofs.Unhooked.{unhooked_targets, unhooked_edges}
use Rattle.pg_boruvka.proofs.tables.Tables.clear_hooks.Goals as goal

pub invariant_of-self : goal.invariant_of-self
invariant_of-self c =
    let t = c.args.self.now in
    let free = c.clear.ensures in
    record {
      some = t.some;
      few = t.few;
      few_edges = t.few_edges;
      each_key = t.each_key;
      each_across = t.each_across;
      each_winner = t.each_winner;
      each_target = free.same_targets ∙ t.each_target;
      each_hook = free.same_edges ∙ t.each_hook;
      arcs_in = t.arcs_in;
      labels_in = t.labels_in;
      keys_in = t.keys_in;
      across_in = t.across_in;
      targets_in = unhooked_targets c.clear.new.self.targets.items c.clear.new.self.edges.items (length t.labels.items) free.unhooked (free.same_targets ∙ t.each_target);
      hooks_in = unhooked_edges c.clear.new.self.targets.items c.clear.new.self.edges.items (length t.chosen.items) free.unhooked;
    }
