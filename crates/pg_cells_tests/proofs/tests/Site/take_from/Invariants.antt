use Rattle.std.proofs.Common.{◌≡◌}
use Rattle.pg_cells_tests.proofs.tests.Site.take_from.Given as goal

abbrev pub invariant-loop : goal.invariant-loop
invariant-loop g l = record { rank : l.self.rank.0 ≡ l.fn.self.rank.0; ranks : l.self.ranks ≡ l.fn.self.ranks }
