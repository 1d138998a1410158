use Rattle.std.proofs.Common.{length, ap, arith}
use Rattle.pg_adj.proofs.FewGhosts.{few_ghosts}
use Rattle.pg_adj.proofs.parts.Part.slots.Goals as goal

pub slots_of-requires-clause-few : goal.slots_of-requires-clause-few
slots_of-requires-clause-few c =
    let few = few_ghosts c.self.inside.ghosts.items c.self.inside.n c.self.invariant.ghosts_ascend c.self.invariant.ghost_vertices in
    omega (arith, few, ap length c.deref.ensures.value, c.self.invariant.n)
