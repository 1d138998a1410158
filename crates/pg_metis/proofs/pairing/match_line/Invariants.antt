use Rattle.std.proofs.Common.{◌-◌, length}
use Rattle.pg_metis.proofs.Matching.{IsMatched}
use Rattle.pg_metis.proofs.pairing.match_line.Given as goal

abbrev pub invariant-loop-next : goal.invariant-loop-next
invariant-loop-next l = IsMatched l.u l.arcs l.edges l.fn.place.arcs l.fn.place.edges l.next.arcs l.next.edges

abbrev pub decreases-loop-next : goal.decreases-loop-next
decreases-loop-next l = length l.arcs - l.next.arcs
