use Rattle.std.proofs.Common.{◌≡◌, ◌++◌, map, take}
use Rattle.pg_cells.proofs.refreshes.push_refreshes.Given as goal

abbrev pub invariant-loop-holder : goal.invariant-loop-holder
invariant-loop-holder l = l.entries.items ≡ l.initial.entries.items ++ map (λ h. record { place = l.place; holder = h }) (take l.holder-index l.holders)
