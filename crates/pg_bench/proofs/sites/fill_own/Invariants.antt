use Rattle.std.proofs.Common.{◌≡◌}
use Rattle.pg_cells.specs.declared.phases.Phase.TheVariants.{Filling}
use Rattle.pg_bench.proofs.sites.fill_own.Given as goal

abbrev pub invariant-loop-place : goal.invariant-loop-place
invariant-loop-place l = record {
  stays : l.cells.part ≡ l.fn.cells.part;
  part : l.cells.part.value ≡ l.part;
  filling : l.cells.phase ≡ Filling;
}
