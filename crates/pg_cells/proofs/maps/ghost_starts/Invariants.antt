use Rattle.std.proofs.Common.{◌≡◌, map, take, Some}
use Rattle.pg_cells.proofs.maps.ghost_starts.Given as goal

abbrev pub invariant-loop-remote : goal.invariant-loop-remote
invariant-loop-remote g l = l.ghosts.items ≡ map (λ h. Some (g.R.Resolver.start l.resolver h.vertex.0)) (take l.remote-index l.held)
