use Rattle.std.proofs.Common.{◌≡◌, length, map, take}
use Rattle.pg_triggers.specs.Mine.{second_vote}
use Rattle.pg_triggers.proofs.votes.second_votes.Given as goal

abbrev pub invariant-loop-i : goal.invariant-loop-i
invariant-loop-i l = (length l.read ≡ 32) × (take l.i l.read ≡ map second_vote (take l.i l.votes))
