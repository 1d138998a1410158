use Rattle.std.proofs.Common.{◌≡◌}
use Rattle.pg_cells.specs.declared.phases.Phase.TheVariants.{Filling}
use Rattle.pg_bench.proofs.sites.fill_ghosts.Given as goal

abbrev pub invariant-loop-held : goal.invariant-loop-held
invariant-loop-held l = record {
  stays : l.cells.part ≡ l.fn.cells.part;
  part : l.cells.part.value ≡ l.part;
  filling : l.cells.phase ≡ Filling;
}
