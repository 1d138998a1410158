use Rattle.pg_boruvka.proofs.NotedHooks.{AreNotedTo}
use Rattle.pg_boruvka.proofs.hooks.Hooks.note_own.Given as goal

abbrev pub invariant-loop-label : goal.invariant-loop-label
invariant-loop-label l = AreNotedTo l.keys l.across l.winners l.initial.self.targets.items l.initial.self.edges.items l.self.targets.items l.self.edges.items l.label
