use Rattle.std.proofs.Common.{arith, subst}
use Rattle.pg_bench.specs.Coloured.{HasColoursBelow, IsLeast}
use Rattle.pg_bench.proofs.Bounds.{maxed, one_rank, all_ranks}
use Rattle.pg_bench.proofs.chosen.colour_count.Goals as goal

pub loop-program-preserved : goal.loop-program-preserved
loop-program-preserved c =
    one_rank (λ b p. HasColoursBelow b p.program) (λ a b p less all place within has. let was = all place within has in omega arith)
    c.args.programs.now c.loop-program.program-index c.loop-program.count c.colours_of.result c.max-count.result c.program-item.result c.loop-program-test.true c.loop-program.invariant (subst (λ p. IsLeast (λ b. HasColoursBelow b p.program) c.colours_of.result) c.program-item.is c.colours_of.ensures)
    (maxed c.loop-program.count c.colours_of.result c.max-count.result c.max-count.ensures)

pub returns : goal.returns
returns c =
    all_ranks (λ b p. HasColoursBelow b p.program) (λ a b p less all place within has. let was = all place within has in omega arith)
    c.args.programs.now c.loop-program.program-index c.loop-program.count (omega (arith, c.loop-program-test.false)) c.loop-program.invariant
