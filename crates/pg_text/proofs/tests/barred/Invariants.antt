use Rattle.std.proofs.Common.{◌≡◌, ◌-◌, ◌^◌, true}
use Rattle.pg_outside.specs.MemoryInputs.{is_begun}
use Rattle.pg_text.specs.Giving.{given}
use Rattle.pg_text.proofs.tests.barred.Given as goal

abbrev pub invariant-loop-all : goal.invariant-loop-all
invariant-loop-all l = (is_begun l.lines.inputs.now ≡ true) × (l.lines.usable ≡ true)

abbrev pub decreases-loop-all : goal.decreases-loop-all
decreases-loop-all l = 2 ^ 64 - given l.lines
