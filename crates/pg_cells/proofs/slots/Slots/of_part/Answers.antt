use Rattle.std.proofs.Common.{ap, length, arith}
use Rattle.pg_adj.proofs.FewGhosts.{few_ghosts}
use Rattle.pg_cells.proofs.slots.Slots.of_part.Goals as goal

pub invariant_of-result-clause-few : goal.invariant_of-result-clause-few
invariant_of-result-clause-few c =
    omega (arith, few_ghosts c.ghosts.result.now c.args.part.now.n c.ghosts.ensures.ascend c.ghosts.ensures.vertices, ap length c.in_ok-from_slice.ensures.items)
