use Rattle.pg_top.proofs.TallyLemmas.{IsTallied}
use Rattle.pg_top.proofs.tallying.tally.Given as goal

abbrev pub invariant-loop-distance : goal.invariant-loop-distance
invariant-loop-distance l = IsTallied l.distances l.distance-index l.tally
