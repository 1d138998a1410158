use Rattle.std.proofs.Common.{◌≡◌, take, All, Contains}
use Rattle.pg_metis.specs.Mirrors.{turned}
use Rattle.pg_metis.specs.Pairing.{arcs_named}
use Rattle.pg_metis.proofs.pairing.first_kind.Given as goal

abbrev pub invariant-loop-arc : goal.invariant-loop-arc
invariant-loop-arc l = All (λ a. a.from ≡ l.vertex → Contains (arcs_named l.arcs) (turned a)) (take l.arc-index (arcs_named l.arcs))
