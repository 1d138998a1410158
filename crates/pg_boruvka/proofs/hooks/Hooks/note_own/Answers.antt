use Rattle.std.proofs.Common.{◌+◌, sym, ◌∙◌, subst}
use Rattle.pg_boruvka.specs.declared.hooks.Hooks.{Hooks}
use Rattle.pg_boruvka.proofs.NotedHooks.{AreNotedTo, noted_at_first, noted_without, noted_with}
use Rattle.pg_boruvka.proofs.hooks.Hooks.note_own.Goals as goal
use Rattle.pg_boruvka.proofs.hooks.Hooks.note_own.Goals.{in-Some, in_default}

pub loop-label-init : goal.loop-label-init
loop-label-init c = noted_at_first c.args.keys.now c.args.across.now c.args.winners.now c.args.self.now.targets.items c.args.self.now.edges.items c.requires.unhooked c.requires.edges

pub loop-label-preserved : goal.loop-label-preserved
loop-label-preserved c =
    let Now : Hooks → Type 0 = λ h. AreNotedTo c.args.keys.now c.args.across.now c.args.winners.now c.args.self.now.targets.items c.args.self.now.edges.items h.targets.items h.edges.items (c.loop-label.label + 1) in
    elim c.match-own_hook.branch [
      | in-Some w ↦
          let by = w.note.ensures in
          subst Now (sym w.self-is)
          (noted_with _ _ _ _ _ _ _ _ c.loop-label.invariant c.loop-label-test.true c.loop-label.auto.label w.in-Some.hook _ _ (sym c.own_hook.ensures ∙ w.in-Some.is) c.requires.across
          by.noted by.still by.targets by.edges by.same_targets by.same_edges)
      | in_default w ↦
          subst Now (sym w.self-is)
          (noted_without _ _ _ _ _ _ _ _ c.loop-label.invariant c.loop-label-test.true c.loop-label.auto.label (sym c.own_hook.ensures ∙ w.in_default.is))
    ]
