use Rattle.std.proofs.Common.{◌≡◌, ◌++◌, length}
use Rattle.std.specs.Vec.Iter.{into_iter_items, into_iter_len}
use Rattle.pg_cells_tests.proofs.tests.seated.Given as goal

abbrev pub invariant-loop-mailbox : goal.invariant-loop-mailbox
invariant-loop-mailbox g l = record {
  count : length l.sites.items ≡ length l.yielded;
  rest : l.yielded ++ into_iter_items l.mailbox-iterator ≡ l.fn.mailboxes.items;
  left : into_iter_len l.mailbox-iterator ≡ length (into_iter_items l.mailbox-iterator);
}
