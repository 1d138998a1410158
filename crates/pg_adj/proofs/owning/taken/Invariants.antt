use Rattle.std.proofs.Common.{◌≡◌, ◌++◌, Some, map}
use Rattle.std.specs.Vec.Iter.{into_iter_items}
use Rattle.pg_adj.proofs.owning.taken.Given as goal

abbrev pub invariant-loop-own : goal.invariant-loop-own
invariant-loop-own l = record {
  rest : l.yielded ++ into_iter_items l.own-iterator ≡ l.fn.made.items;
  same : map Some l.rows.items ≡ l.yielded;
}
