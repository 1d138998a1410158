use Rattle.std.proofs.Common.{◌≡◌, ◌<◌, ℕ, length, slice_index_or}
use Rattle.std.specs.Vec.Iter.{into_iter_items}
use Rattle.pg_adj.specs.declared.shares.Share.{Share}
use Rattle.pg_adj.proofs.SharesOf.{IsOfRank}
use Rattle.pg_adj.proofs.SideBySide.{AreYielded}
use Rattle.pg_adj.proofs.shares.shares_of.Given as goal

abbrev pub invariant-loop-own : goal.invariant-loop-own
invariant-loop-own g l = record {
  count : length l.shares.items ≡ length l.yielded;
  share : (r : ℕ) (d : Share) → r < length l.yielded → IsOfRank (g.D.Distribution.sharing l.dist)
      l.fn.rows.items l.sets r (slice_index_or l.shares.items r d);
  yielded : AreYielded l.fn.rows.items (into_iter_items l.initial.own-iterator.b) l.yielded l.own-iterator;
}
