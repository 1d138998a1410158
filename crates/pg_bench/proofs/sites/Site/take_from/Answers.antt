use Rattle.std.proofs.Common.{Bor, ap, ◌∙◌}
use Rattle.pg_adj.specs.Portions.{Portion}
use Rattle.pg_bench.proofs.Others.{still_other}
use Rattle.pg_bench.proofs.sites.Site.take_from.Goals as goal

pub poll-requires : goal.poll-requires
poll-requires g c =
    let now = c.loop-count.self in
    let same = c.loop-count.invariant in
    still_other c.args.self.now.part.now.rank c.args.self.now.part.now.ranks _ _ c.args.from.0 (now.own ∙ ap (λ (p : Bor Portion). p.now.rank) same) (now.size ∙ ap (λ (p : Bor Portion). p.now.ranks) same) c.requires
