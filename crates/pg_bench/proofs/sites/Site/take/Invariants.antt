use Rattle.std.proofs.Common.{◌≡◌}
use Rattle.pg_bench.proofs.sites.Site.take.Given as goal

abbrev pub invariant-loop-from : goal.invariant-loop-from
invariant-loop-from g l = l.self.part ≡ l.fn.self.part
