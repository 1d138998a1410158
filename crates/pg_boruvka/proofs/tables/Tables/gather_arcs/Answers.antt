use Rattle.std.proofs.Common.{ℕ, ◌<◌, ◌∙◌, All, List, length, ap, subst, sym, arith}
use Rattle.pg_boruvka.specs.Arcs.{IsOfEdge}
use Rattle.pg_boruvka.proofs.Unhooked.{written}
use Rattle.pg_boruvka.proofs.tables.Tables.gather_arcs.Goals as goal

pub invariant_of-self : goal.invariant_of-self
invariant_of-self c =
    let t = c.args.self.now in
    let said = c.gather.ensures in
    let keys = written t.keys.items c.gather.new.keys t.keys.len (omega (arith, t.keys.ok.0)) (said.same_keys ∙ ap length c.deref_mut.ensures.value) in
    let across = written t.across.items c.gather.new.across t.across.len (omega (arith, t.across.ok.0)) (said.same_across ∙ ap length c.deref_mut-2.ensures.value) in
    record {
      some = t.some;
      few = t.few;
      few_edges = t.few_edges;
      each_key = ap length keys ∙ (said.same_keys ∙ (ap length c.deref_mut.ensures.value ∙ t.each_key));
      each_across = ap length across ∙ (said.same_across ∙ (ap length c.deref_mut-2.ensures.value ∙ t.each_across));
      each_winner = t.each_winner;
      each_target = t.each_target;
      each_hook = t.each_hook;
      arcs_in = said.ends (length t.labels.items) (length t.chosen.items) (subst (λ (x : List ℕ). All (λ (l : ℕ). l < length t.labels.items) x) (sym c.deref.ensures.value) t.targets_in) t.arcs_in;
      labels_in = t.labels_in;
      keys_in = subst (λ (x : List ℕ). All (IsOfEdge (length t.chosen.items)) x) (sym keys) (said.edges (length t.labels.items) (length t.chosen.items) t.few_edges t.arcs_in);
      across_in = subst (λ (x : List ℕ). All (λ (l : ℕ). l < length t.labels.items) x) (sym across) (said.targets (length t.labels.items)
          (subst (λ (x : List ℕ). All (λ (l : ℕ). l < length t.labels.items) x) (sym c.deref_mut-2.ensures.value) t.across_in)
          (subst (λ (x : List ℕ). All (λ (l : ℕ). l < length t.labels.items) x) (sym c.deref.ensures.value) t.targets_in));
      targets_in = t.targets_in;
      hooks_in = t.hooks_in;
    }
