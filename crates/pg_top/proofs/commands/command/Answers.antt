use Rattle.std.specs.Io.KnownBytes.{Appends}
use Rattle.pg_top.proofs.Steps.{Reports-from_write}
use Rattle.pg_top.proofs.Causes.{malformed, malformed_parts, outside, complete, complete_grid, no_text, no_text_by_parts}
use Rattle.pg_top.proofs.Outcomes.{from_ok, from_err}
use Rattle.pg_top.proofs.commands.command.Goals as goal

pub returns-in-Ok-clause-malformed : goal.returns-in-Ok-clause-malformed
returns-in-Ok-clause-malformed g c = λ plan text first tells odd none. absurd (no_text _ _ plan text first (Appends (g.S.Sink.text c.args.out.now) (g.S.Sink.text c.run-ended.new.out)) tells odd (from_ok c.run-ended.result.0 c.in-Ok.field-0 c.in-Ok.is c.run-ended.ensures.printed))

pub returns-in-Ok-clause-malformed_parts : goal.returns-in-Ok-clause-malformed_parts
returns-in-Ok-clause-malformed_parts g c = λ plan graph first tells none. absurd (no_text_by_parts _ _ plan graph first tells (Appends (g.S.Sink.text c.args.out.now) (g.S.Sink.text c.run-ended.new.out)) (from_ok c.run-ended.result.0 c.in-Ok.field-0 c.in-Ok.is c.run-ended.ensures.printed))

pub returns-in-Err-clause-malformed : goal.returns-in-Err-clause-malformed
returns-in-Err-clause-malformed g c = λ plan text first tells odd none. rw c.status.ensures (malformed _ _ _ plan text tells first odd none c.in-Err.fault (from_err c.run-ended.result.0 c.in-Err.fault _ c.in-Err.is c.run-ended.ensures.fails))

pub returns-in-Err-clause-malformed_parts : goal.returns-in-Err-clause-malformed_parts
returns-in-Err-clause-malformed_parts g c = λ plan graph first tells none. rw c.status.ensures (malformed_parts _ _ _ plan graph first tells none c.in-Err.fault (from_err c.run-ended.result.0 c.in-Err.fault _ c.in-Err.is c.run-ended.ensures.fails))

pub returns-in-Err-clause-outside : goal.returns-in-Err-clause-outside
returns-in-Err-clause-outside g c = λ plan graph tells out none. rw c.status.ensures (outside _ _ _ plan graph tells out none c.in-Err.fault (from_err c.run-ended.result.0 c.in-Err.fault _ c.in-Err.is c.run-ended.ensures.fails))

pub returns-in-Err-clause-complete : goal.returns-in-Err-clause-complete
returns-in-Err-clause-complete g c = λ plan graph tells inside unread unwritten. rw c.status.ensures (complete _ _ _ plan graph tells inside unread unwritten c.in-Err.fault (from_err c.run-ended.result.0 c.in-Err.fault _ c.in-Err.is c.run-ended.ensures.fails))

pub returns-in-Err-clause-complete_grid : goal.returns-in-Err-clause-complete_grid
returns-in-Err-clause-complete_grid g c = λ plan planned is unwritten. rw c.status.ensures (complete_grid _ _ _ plan planned is unwritten c.in-Err.fault (from_err c.run-ended.result.0 c.in-Err.fault _ c.in-Err.is c.run-ended.ensures.fails))

pub returns-in-Err-clause-reports : goal.returns-in-Err-clause-reports
returns-in-Err-clause-reports g c = λ _. (c.in-Err.fault, c.status.ensures, (from_err c.run-ended.result.0 c.in-Err.fault _ c.in-Err.is c.run-ended.ensures.fails), Reports-from_write c.print_fault.result _ _ _ _ _ c.print_fault.ensures.ok c.print_fault.ensures.err c.print_fault.ensures.cause)
