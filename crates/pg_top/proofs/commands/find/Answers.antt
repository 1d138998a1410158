use Rattle.std.specs.Option.{option_map}
use Rattle.pg_words.specs.Plan.{meaning_of}
use Rattle.pg_top.specs.Answered.{text_in}
use Rattle.pg_top.proofs.Causes.{solved_at}
use Rattle.pg_top.proofs.InputLemmas.{HasInput-weaker}
use Rattle.pg_top.proofs.commands.find.Goals as goal

pub returns-in-Ok-clause-found : goal.returns-in-Ok-clause-found
returns-in-Ok-clause-found g c =
    let input = c.in_ok-input.input in
    let s = c.in-Ok.solved in
    HasInput-weaker (meaning_of c.args.plan.now) (g.I.Inputs.files c.args.inputs.now) _ _ (λ k others same.
    solved_at (meaning_of c.args.plan.now) input.graph k (option_map (λ o. o.items) input.owners) others (text_in s.answers) s.work c.in-Ok.ensures.right c.in-Ok.ensures.work same.0 same.1) c.in_ok-input.ensures.has
