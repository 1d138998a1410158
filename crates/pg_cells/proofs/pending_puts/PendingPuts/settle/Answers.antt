use Rattle.pg_cells.proofs.Owing.{paid}
use Rattle.pg_cells.proofs.pending_puts.PendingPuts.settle.Goals as goal

pub invariant_of-self-clause-listed : goal.invariant_of-self-clause-listed
invariant_of-self-clause-listed c =
    let s = c.args.self.now in
    rw (c.write.ensures, c.write-2.ensures, c.pop.ensures.rest, s.slots.ok.0) (paid s.owed.items s.noted.items s.slots.items c.args.slot s.listed c.requires)
