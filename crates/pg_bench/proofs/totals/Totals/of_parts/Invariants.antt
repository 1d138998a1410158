use Rattle.std.proofs.Common.{◌≡◌, length, take}
use Rattle.std.specs.List.{sum_by}
use Rattle.pg_bench.specs.Counts.{capped, arcs_in, holders_in}
use Rattle.pg_bench.proofs.totals.Totals.of_parts.Given as goal

abbrev pub invariant-loop-part : goal.invariant-loop-part
invariant-loop-part l = record {
  arcs : l.totals.arcs ≡ capped (sum_by arcs_in (take l.part-index l.parts));
  ghosts : l.totals.ghosts ≡ capped (sum_by (λ p. length p.ghosts) (take l.part-index l.parts));
  holders : l.totals.holders ≡ capped (sum_by holders_in (take l.part-index l.parts));
}
