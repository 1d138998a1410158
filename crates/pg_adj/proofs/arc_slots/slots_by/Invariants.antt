use Rattle.std.proofs.Common.{◌≡◌, map, take, None, slice_index_or}
use Rattle.pg_adj.proofs.arc_slots.slots_by.Given as goal

abbrev pub invariant-loop-arc : goal.invariant-loop-arc
invariant-loop-arc l = l.slots.items ≡ map (λ a. slice_index_or l.table a.to.0 None) (take l.arc-index l.arcs)
