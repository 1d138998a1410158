use Rattle.pg_uses.specs.Greatest.{IsGreatest}
use Rattle.pg_uses.proofs.Counting.{IsDegreeBelow}
use Rattle.pg_uses.proofs.degrees.own_degree.Given as goal

abbrev pub invariant-loop-place : goal.invariant-loop-place
invariant-loop-place l = IsGreatest (IsDegreeBelow l.part l.place) l.greatest
