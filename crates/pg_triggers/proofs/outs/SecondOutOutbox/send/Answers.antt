use Rattle.std.proofs.Common.{refl, ap, ◌∙◌, [], ◌∷◌}
use Rattle.pg_triggers.specs.declared.items.Of2.TheVariants.{Second}
use Rattle.pg_triggers.specs.Mine.{whole, second_item, second_vote}
use Rattle.pg_triggers.proofs.MineLemmas.{whole-some}
use Rattle.pg_triggers.proofs.outs.SecondOutOutbox.send.Goals as goal

pub returns-in-Ok-clause-ok : goal.returns-in-Ok-clause-ok
returns-in-Ok-clause-ok g c =
    ap (whole second_item second_vote) c.in-Ok.ensures.ok ∙ whole-some second_item second_vote (g.O.Outbox.sent c.args.self.now.out.now) c.args.to.0 (Second c.args.item) c.args.item refl

pub returns-in-Ok-clause-rest : goal.returns-in-Ok-clause-rest
returns-in-Ok-clause-rest g c = (refl, c.in-Ok.ensures.rest, ((c.args.to.0, c.args.item) ∷ [], c.in-Ok.ensures.ok))
