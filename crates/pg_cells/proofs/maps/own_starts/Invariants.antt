use Rattle.std.proofs.Common.{◌≡◌, map, take}
use Rattle.pg_cells.proofs.maps.own_starts.Given as goal

abbrev pub invariant-loop-place : goal.invariant-loop-place
invariant-loop-place g l = l.own.items ≡ map (g.R.Resolver.start l.resolver) (take l.place l.part.vertices)
