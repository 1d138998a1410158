use Rattle.std.proofs.Common.{refl, max}
use Rattle.pg_cells.specs.Joins.{max-assoc}
use Rattle.pg_cells.specs.Example.{both_ways, parts, runs, cells, start}
use Rattle.pg_cells.proofs.Example.{of_one_division, have_synchronized}
use Rattle.pg_cells.proofs.Synchronizes.{backward_law, forward_law}
use Rattle.pg_cells.proofs.laws.synchronized.Goals as goal

pub returns : goal.returns
returns c = record {
  division = of_one_division;
  premise = have_synchronized;
  fresh = backward_law max start both_ways parts runs cells of_one_division have_synchronized refl;
  joined = forward_law max start max-assoc both_ways parts runs cells of_one_division have_synchronized refl refl;
}
