use Rattle.pg_run.proofs.Ready.{ready_on}
use Rattle.pg_run_tests.proofs.gate_tests.a_group_runs_on_after_a_turn_by_hand.Goals as goal

pub run-finished-requires-clause-ready : goal.run-finished-requires-clause-ready
run-finished-requires-clause-ready g c κs = ready_on _ _ c.in_ok-group.ensures.ready c.turn_in-turn.ensures.follow
