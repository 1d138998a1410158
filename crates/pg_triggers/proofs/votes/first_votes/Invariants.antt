use Rattle.std.proofs.Common.{◌≡◌, length, map, take}
use Rattle.pg_triggers.specs.Mine.{first_vote}
use Rattle.pg_triggers.proofs.votes.first_votes.Given as goal

abbrev pub invariant-loop-i : goal.invariant-loop-i
invariant-loop-i l = (length l.read ≡ 32) × (take l.i l.read ≡ map first_vote (take l.i l.votes))
