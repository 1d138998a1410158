use Rattle.std.proofs.Common.{◌∙◌, ⊎_elim}
use Rattle.pg_colour.specs.Rounds.{count_of}
use Rattle.pg_colour.proofs.WorkLemmas.{fills_or_refreshes}
use Rattle.pg_colour.proofs.colouring.Colouring.refreshes.Goals as goal

pub returns-in_default-clause-fills : goal.returns-in_default-clause-fills
returns-in_default-clause-fills c = λ is.
    ⊎_elim (λ fills. fills) (λ refreshes. absurd (c.in_default.not-Refreshing (c.phase.ensures ∙ (c.args.self.now.phase ∙ refreshes)))) (fills_or_refreshes (count_of c.args.self.now.rounds))
