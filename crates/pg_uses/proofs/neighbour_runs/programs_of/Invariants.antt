use Rattle.std.proofs.Common.{◌≡◌, ◌++◌, length}
use Rattle.std.specs.Prelude.{Some, slice_get}
use Rattle.std.specs.Vec.Iter.{into_iter_items, into_iter_len}
use Rattle.pg_adj.specs.Portions.{Portion}
use Rattle.pg_group.specs.Entries.{Each}
use Rattle.pg_uses.specs.Synchronizing.{IsMapOf}
use Rattle.pg_uses.proofs.neighbour_runs.programs_of.Given as goal

abbrev pub invariant-loop-part : goal.invariant-loop-part
invariant-loop-part l = record {
  count : length l.programs.items ≡ length l.yielded;
  rest : l.yielded ++ into_iter_items l.part-iterator ≡ l.fn.parts.items;
  left : into_iter_len l.part-iterator ≡ length (into_iter_items l.part-iterator);
  each : Each (λ rank p. (part : Portion) → slice_get l.yielded rank ≡ Some part → IsMapOf part p) l.programs.items;
}
