use Rattle.std.proofs.Common.{map, sym, subst}
use Rattle.pg_dist.specs.Sharing.{Sharing, IsSharing}
use Rattle.pg_top.specs.Paired.{hops_in, roots_in}
use Rattle.pg_top.specs.Relaxed.{HavePlaces}
use Rattle.pg_top.proofs.OverBooks.{places_over}
use Rattle.pg_top.proofs.pairs.search_over.Goals as goal

pub hops_of-requires-clause-places : goal.hops_of-requires-clause-places
hops_of-requires-clause-places g c =
    let s : Sharing = g.D.Distribution.sharing c.args.dist.now in
    let laws : IsSharing s = (g.met.D.Distribution g.world.𝓛 g.world.𝓜 g.world.𝓡 ((λ s x. x), (λ x. x), (λ x. x), λ x. x)).laws c.args.dist.now in
    let run = c.in_ok-finished.ensures in
    subst (λ ps. HavePlaces s (map hops_in ps)) (sym c.deref.ensures.value) (places_over (record { source = c.args.source }) s laws c.args.graph.now _ _ _ run.hops)

pub roots_of-requires-clause-places : goal.roots_of-requires-clause-places
roots_of-requires-clause-places g c =
    let s : Sharing = g.D.Distribution.sharing c.args.dist.now in
    let laws : IsSharing s = (g.met.D.Distribution g.world.𝓛 g.world.𝓜 g.world.𝓡 ((λ s x. x), (λ x. x), (λ x. x), λ x. x)).laws c.args.dist.now in
    let run = c.in_ok-finished.ensures in
    subst (λ ps. HavePlaces s (map roots_in ps)) (sym c.deref-2.ensures.value) (places_over (record {}) s laws c.args.graph.now _ _ _ run.roots)
