use Rattle.std.proofs.Common.{length}
use Rattle.pg_adj.specs.RankSets.{members}
use Rattle.pg_adj.proofs.Members.{AreCounted}
use Rattle.pg_adj.proofs.ghosts.count_members.Given as goal

abbrev pub invariant-loop-rank : goal.invariant-loop-rank
invariant-loop-rank l = AreCounted l.fn.set l.rest l.fn.counts l.counts

abbrev pub decreases-loop-rank : goal.decreases-loop-rank
decreases-loop-rank l = length (members l.rest)
