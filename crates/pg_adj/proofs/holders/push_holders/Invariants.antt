use Rattle.std.proofs.Common.{◌≡◌, length, vec_capacity}
use Rattle.pg_adj.specs.RankSets.{members}
use Rattle.pg_adj.proofs.PushHolders.{ArePushed}
use Rattle.pg_adj.proofs.holders.push_holders.Given as goal

abbrev pub invariant-loop-rank : goal.invariant-loop-rank
invariant-loop-rank l = record {
  pushed : ArePushed l.fn.set l.rest l.fn.next_slots l.next_slots l.fn.rows.holders.items l.rows.holders.items;
  bounds : l.rows.bounds ≡ l.fn.rows.bounds;
  room : vec_capacity l.rows.holders ≡ vec_capacity l.fn.rows.holders;
}

abbrev pub decreases-loop-rank : goal.decreases-loop-rank
decreases-loop-rank l = length (members l.rest)
