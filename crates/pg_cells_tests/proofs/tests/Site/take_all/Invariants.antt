use Rattle.std.proofs.Common.{◌≡◌}
use Rattle.pg_cells_tests.proofs.tests.Site.take_all.Given as goal

abbrev pub invariant-loop-from : goal.invariant-loop-from
invariant-loop-from g l = l.self.ranks ≡ l.fn.self.ranks
