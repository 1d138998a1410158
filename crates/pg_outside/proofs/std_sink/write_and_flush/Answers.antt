use Rattle.pg_outside.proofs.Writes.{appends_keeps, front_by_whole, on_any_err}
use Rattle.pg_outside.proofs.std_sink.write_and_flush.Goals as goal

pub returns-clause-err : goal.returns-clause-err
returns-clause-err g c =
    on_any_err c.flush.result (front_by_whole _ _ _ (appends_keeps _ _ _ _ c.in_ok-write_whole.ensures.ok c.flush.ensures))
