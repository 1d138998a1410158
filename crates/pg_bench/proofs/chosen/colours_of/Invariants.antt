use Rattle.pg_bench.specs.Coloured.{AreBelow, IsLeast}
use Rattle.pg_bench.proofs.chosen.colours_of.Given as goal

abbrev pub invariant-loop-place : goal.invariant-loop-place
invariant-loop-place l = IsLeast (λ bound. AreBelow l.colouring l.place bound) l.count
