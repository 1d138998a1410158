use Rattle.std.proofs.Common.{take}
use Rattle.pg_cells.specs.Shown.{state_of}
use Rattle.pg_uses.specs.Greatest.{IsGreatest}
use Rattle.pg_uses.proofs.Looking.{IsValueAmong}
use Rattle.pg_uses.proofs.neighbours.NeighbourDegrees.greatest.Given as goal

abbrev pub invariant-loop-arc : goal.invariant-loop-arc
invariant-loop-arc l = IsGreatest (IsValueAmong (take l.arc-index l.arcs) (state_of l.self.cells)) l.greatest
