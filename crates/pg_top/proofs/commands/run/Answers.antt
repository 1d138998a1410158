use Rattle.std.proofs.Common.{◌≡◌, sym}
use Rattle.std.specs.Io.KnownBytes.{Appends}
use Rattle.pg_outside.specs.Written.{AppendsFront}
use Rattle.pg_print.specs.declared.faults.Fault.TheVariants.{Write}
use Rattle.pg_words.specs.Plan.{texts}
use Rattle.pg_top.specs.Answered.{text_in}
use Rattle.pg_top.specs.Run.{HasPlan, RunFails}
use Rattle.pg_top.specs.Work.{HasWork}
use Rattle.pg_top.proofs.Causes.{text_from_solved, work_from_solved}
use Rattle.pg_top.proofs.Outcomes.{on_ok, on_err, on_write}
use Rattle.pg_top.proofs.commands.run.Goals as goal

pub returns-in-Ok-clause-works : goal.returns-in-Ok-clause-works
returns-in-Ok-clause-works g c =
    let s = c.in-Ok.solved in
    on_ok c.write.result.0 c.write.ensures.printed (λ done.
    work_from_solved (texts c.args.words.now) (g.I.Inputs.files c.args.inputs.now) (text_in s.answers) s.work
    (Appends (g.S.Sink.text c.args.out.now) (g.S.Sink.text c.write.new.out)) c.write.result.1 (sym c.write.ensures.work) c.in-Ok.ensures.found done)

pub returns-in-Ok-clause-works_partly : goal.returns-in-Ok-clause-works_partly
returns-in-Ok-clause-works_partly g c =
    let s = c.in-Ok.solved in
    on_err c.write.result.0 (λ fault. fault ≡ Write → HasPlan (texts c.args.words.now) (λ plan. HasWork plan (g.I.Inputs.files c.args.inputs.now) c.write.result.1 (AppendsFront (g.S.Sink.text c.args.out.now) (g.S.Sink.text c.write.new.out)))) c.write.ensures.front (λ fault done is.
    work_from_solved (texts c.args.words.now) (g.I.Inputs.files c.args.inputs.now) (text_in s.answers) s.work
    (AppendsFront (g.S.Sink.text c.args.out.now) (g.S.Sink.text c.write.new.out)) c.write.result.1 (sym c.write.ensures.work) c.in-Ok.ensures.found done)

pub returns-in-Ok-clause-printed : goal.returns-in-Ok-clause-printed
returns-in-Ok-clause-printed g c =
    let s = c.in-Ok.solved in
    on_ok c.write.result.0 c.write.ensures.printed (λ done.
    text_from_solved (texts c.args.words.now) (g.I.Inputs.files c.args.inputs.now) (text_in s.answers) s.work
    (Appends (g.S.Sink.text c.args.out.now) (g.S.Sink.text c.write.new.out)) c.in-Ok.ensures.found done)

pub returns-in-Ok-clause-fails : goal.returns-in-Ok-clause-fails
returns-in-Ok-clause-fails g c =
    let s = c.in-Ok.solved in
    on_write c.write.result.0 (λ fault. RunFails (texts c.args.words.now) (g.I.Inputs.files c.args.inputs.now) (record {
      inputs_before = g.I.Inputs.faults c.args.inputs.now;
      inputs_after = g.I.Inputs.faults c.prepare.new.inputs;
      out_before = g.S.Sink.faults c.args.out.now;
      out_after = g.S.Sink.faults c.write.new.out;
      text_before = g.S.Sink.text c.args.out.now;
      text_after = g.S.Sink.text c.write.new.out;
    }) fault) c.write.ensures.front c.write.ensures.cause c.write.ensures.fault (λ done rose.
    let written = text_from_solved (texts c.args.words.now) (g.I.Inputs.files c.args.inputs.now) (text_in s.answers) s.work
    (AppendsFront (g.S.Sink.text c.args.out.now) (g.S.Sink.text c.write.new.out)) c.in-Ok.ensures.found done in
    (written.0, written.1, (rose, written.2)))
