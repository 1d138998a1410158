use Rattle.pg_base.proofs.WalkLemmas.{walks_compose, walks_refine, walks_turn_round}
use Rattle.pg_base.proofs.laws.walk_laws.Goals as goal

pub returns : goal.returns
returns c = record { compose = walks_compose; refine = walks_refine; turn_round = walks_turn_round }
