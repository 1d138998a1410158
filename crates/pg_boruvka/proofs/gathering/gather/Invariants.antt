use Rattle.pg_boruvka.proofs.Gathered.{IsGathered}
use Rattle.pg_boruvka.proofs.gathering.gather.Given as goal

abbrev pub invariant-loop-place : goal.invariant-loop-place
invariant-loop-place l = IsGathered l.pointers l.initial.arcs.items l.arcs.items l.keys l.initial.across l.across l.kept l.place
