-- How arcs that aren't paired are refused.
use Rattle.std.specs.Prelude.{ℕ, ◌-◌, ◌≤◌, ⊤, List, slice_index}
use Rattle.pg_metis.specs.declared.faults.GraphFault.{GraphFault}
use Rattle.pg_metis.specs.declared.faults.GraphFault.TheVariants as answer
use Rattle.pg_metis.specs.declared.pairing.PairFault.{PairFault}
use Rattle.pg_metis.specs.declared.pairing.PairFault.TheVariants.{NotPaired, OutOfMemory}

-- The vertex that is named is one of 1 to n.
abbrev pub LeavesWithin : ℕ → PairFault → Type 0
LeavesWithin n (NotPaired vertex kind) = (1 ≤ vertex) × (vertex ≤ n)
LeavesWithin n OutOfMemory = ⊤

-- The refusal at the line of the vertex, where these are the numbers of the vertices' lines.
abbrev pub told_at : List ℕ → PairFault → GraphFault
told_at numbers (NotPaired vertex kind) = answer.Refused (slice_index numbers (vertex - 1)) kind
told_at numbers OutOfMemory = answer.OutOfMemory
