use Rattle.std.proofs.Common.{◌≡◌, min, take}
use Rattle.std.specs.List.{fold}
use Rattle.pg_agenda.specs.Shares.{NONE}
use Rattle.pg_agenda.proofs.agreements.least_bucket.Given as goal

abbrev pub invariant-loop-vote : goal.invariant-loop-vote
invariant-loop-vote l = l.least ≡ fold (λ least vote. min least vote.a) NONE (take l.vote-index l.votes)
