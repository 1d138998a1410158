use Rattle.std.proofs.Common.{◌≡◌, ◌-◌}
use Rattle.pg_boruvka.specs.Known.{view_of}
use Rattle.pg_boruvka.specs.Calls.{IsFurther}
use Rattle.pg_boruvka.proofs.dense.Dense.seek.Given as goal

abbrev pub invariant-loop-self : goal.invariant-loop-self
invariant-loop-self l = record { further : IsFurther (view_of l.fn.self) (view_of l.self); idle : l.self.idle ≡ l.fn.self.idle }

abbrev pub decreases-loop-self : goal.decreases-loop-self
decreases-loop-self l = l.self.ranks - l.self.to
