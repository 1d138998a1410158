use Rattle.pg_words.specs.Plan.{meaning_of, texts}
use Rattle.pg_words.proofs.BuiltLaws.{plans_are_built}
use Rattle.pg_top.proofs.Outcomes.{on_ok_of}
use Rattle.pg_top.proofs.commands.prepare.Goals as goal

pub find-requires-after_bounds : goal.find-requires-after_bounds
find-requires-after_bounds g c κs within = plans_are_built (texts c.args.words.now) (meaning_of c.in_ok-plan.plan) c.in_ok-plan.ensures.planned

pub returns-clause-end : goal.returns-clause-end
returns-clause-end g c = on_ok_of c.find.result c.find.ensures.end (λ end. (meaning_of c.in_ok-plan.plan, c.in_ok-plan.ensures.planned, end))
