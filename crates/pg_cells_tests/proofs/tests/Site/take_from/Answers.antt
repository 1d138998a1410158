use Rattle.std.proofs.Common.{ℕ, sym, ◌∙◌, subst}
use Rattle.pg_group.specs.Ranked.{IsOther}
use Rattle.pg_cells_tests.proofs.tests.Site.take_from.Goals as goal

pub poll-requires : goal.poll-requires
poll-requires g c =
    let inv = c.loop.invariant in
    let own = c.loop.self.own ∙ inv.rank in
    let size = c.loop.self.size ∙ inv.ranks in
    subst (λ (n : ℕ). IsOther n (g.M.Outbox.size c.loop.self.port) c.args.from.0) (sym own)
    (subst (λ (n : ℕ). IsOther c.args.self.now.rank.0 n c.args.from.0) (sym size) c.requires)
