use Rattle.std.proofs.Common.{◌≡◌, map, take, Some}
use Rattle.pg_cells.proofs.maps.start_all.Given as goal

abbrev pub invariant-loop-slot : goal.invariant-loop-slot
invariant-loop-slot g l = take l.slot l.ghosts ≡ map (λ h. Some (g.R.Resolver.start l.resolver h.vertex.0)) (take l.slot l.held)
