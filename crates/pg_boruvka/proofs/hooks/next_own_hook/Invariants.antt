use Rattle.std.proofs.Common.{◌≡◌, ℕ, ◌<◌, ◌≤◌, None}
use Rattle.pg_boruvka.specs.Noted.{own_hook_at}
use Rattle.pg_boruvka.proofs.hooks.next_own_hook.Given as goal

abbrev pub invariant-loop-label : goal.invariant-loop-label
invariant-loop-label l = (k : ℕ) → l.fn.label ≤ k → k < l.label → own_hook_at l.keys l.across l.winners k ≡ None
