use Rattle.std.proofs.Common.{◌≡◌}
use Rattle.pg_bench.proofs.sites.Site.take_from.Given as goal

abbrev pub invariant-loop-count : goal.invariant-loop-count
invariant-loop-count g l = l.self.part ≡ l.fn.self.part
