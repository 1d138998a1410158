use Rattle.pg_adj.proofs.HolderRows.{AreFilledTo, HaveRoom}
use Rattle.pg_dist.specs.Sharing.{Sharing}
use Rattle.pg_adj.proofs.holders.holder_rows.Given as goal

abbrev pub invariant-loop-k : goal.invariant-loop-k
invariant-loop-k g l =
    let s : Sharing = g.D.Distribution.sharing l.dist in
    record { filled : AreFilledTo s l.sets l.k l.rows.items l.next_slots.items; room : HaveRoom s l.sets l.rows.items }
