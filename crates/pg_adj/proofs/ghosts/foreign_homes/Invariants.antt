use Rattle.std.proofs.Common.{◌≡◌, ◌==◌, ◌&&◌, not, ℕ, take}
use Rattle.std.specs.List.{list_any}
use Rattle.pg_adj.specs.RankSets.{has}
use Rattle.pg_adj.proofs.ghosts.foreign_homes.Given as goal

abbrev pub invariant-loop-arc : goal.invariant-loop-arc
invariant-loop-arc l = (r : ℕ) → has l.homes r ≡ list_any (λ a. a.home.0 == r && not (a.home.0 == l.rank.0)) (take l.arc-index l.arcs)
