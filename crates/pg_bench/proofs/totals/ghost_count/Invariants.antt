use Rattle.std.proofs.Common.{◌≡◌, length, take}
use Rattle.std.specs.List.{sum_by}
use Rattle.pg_bench.specs.Counts.{capped}
use Rattle.pg_bench.proofs.totals.ghost_count.Given as goal

abbrev pub invariant-loop-part : goal.invariant-loop-part
invariant-loop-part l = l.count ≡ capped (sum_by (λ p. length p.ghosts) (take l.part-index l.parts))
