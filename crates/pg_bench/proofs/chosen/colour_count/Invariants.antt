use Rattle.std.proofs.Common.{All, take}
use Rattle.pg_bench.specs.Coloured.{HasColoursBelow, IsLeast}
use Rattle.pg_bench.proofs.chosen.colour_count.Given as goal

abbrev pub invariant-loop-program : goal.invariant-loop-program
invariant-loop-program l = IsLeast (λ bound. All (λ p. HasColoursBelow bound p.program) (take l.program-index l.programs)) l.count
