-- At each return the two laws hold; the resolver's own law is that of its trait.
use Rattle.pg_cells.proofs.Synchronizes.{backward_law, forward_law}
use Rattle.pg_cells.proofs.cells.Cells.end_round.Goals as goal

pub returns-then-self-clause-refreshes : goal.returns-then-self-clause-refreshes
returns-then-self-clause-refreshes g c = backward_law _ _

pub returns-then-self-clause-joins : goal.returns-then-self-clause-joins
returns-then-self-clause-joins g c =
    let laws = g.met.R.Resolver g.world.𝓛 g.world.𝓜 g.world.𝓡 ((λ s x. x), (λ x. x), (λ x. x), λ x. x) in
    forward_law _ _ (laws.associative c.args.self.now.resolver)

pub returns-in-Filling-clause-refreshes : goal.returns-in-Filling-clause-refreshes
returns-in-Filling-clause-refreshes g c = backward_law _ _

pub returns-in-Filling-clause-joins : goal.returns-in-Filling-clause-joins
returns-in-Filling-clause-joins g c =
    let laws = g.met.R.Resolver g.world.𝓛 g.world.𝓜 g.world.𝓡 ((λ s x. x), (λ x. x), (λ x. x), λ x. x) in
    forward_law _ _ (laws.associative c.args.self.now.resolver)

pub returns-else-self-clause-refreshes : goal.returns-else-self-clause-refreshes
returns-else-self-clause-refreshes g c = backward_law _ _

pub returns-else-self-clause-joins : goal.returns-else-self-clause-joins
returns-else-self-clause-joins g c =
    let laws = g.met.R.Resolver g.world.𝓛 g.world.𝓜 g.world.𝓡 ((λ s x. x), (λ x. x), (λ x. x), λ x. x) in
    forward_law _ _ (laws.associative c.args.self.now.resolver)

pub returns-in-Refreshing-clause-refreshes : goal.returns-in-Refreshing-clause-refreshes
returns-in-Refreshing-clause-refreshes g c = backward_law _ _

pub returns-in-Refreshing-clause-joins : goal.returns-in-Refreshing-clause-joins
returns-in-Refreshing-clause-joins g c =
    let laws = g.met.R.Resolver g.world.𝓛 g.world.𝓜 g.world.𝓡 ((λ s x. x), (λ x. x), (λ x. x), λ x. x) in
    forward_law _ _ (laws.associative c.args.self.now.resolver)
