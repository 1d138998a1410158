use Rattle.std.proofs.Common.{◌≡◌, ◌∙◌, map, sym, subst}
use Rattle.pg_base.specs.Distances.{AreLeastArcs}
use Rattle.pg_dist.specs.Sharing.{Sharing}
use Rattle.pg_dist.specs.contracts.blocks.BlockDistribution.TheImpl.{ghosts as block}
use Rattle.pg_top.specs.declared.columns.Field.TheVariants.{Amount, Class}
use Rattle.pg_top.specs.Distributions.{IsInBlocks}
use Rattle.pg_top.specs.Paired.{ArePaired, IsPairCarried, hops_in, roots_in}
use Rattle.pg_top.specs.Relaxed.{AreAnswers}
use Rattle.pg_top.specs.Text.{AreLowest}
use Rattle.pg_top.proofs.OverBooks.{hops_over, roots_over}
use Rattle.pg_top.proofs.Outcomes.{ok_both}
use Rattle.pg_top.proofs.pairs.hops_and_roots.Goals as goal

pub returns-clause-hops : goal.returns-clause-hops
returns-clause-hops g c =
    let s : Sharing = block.sharing c.new-dist.result in
    let graph = c.args.graph.now in
    let said = c.search_over.ensures in
    let same : graph.n ≡ s.n = sym (c.new-dist.ensures.vertices ∙ c.n.ensures.value) in
    ok_both c.search_over.result
    (λ x. ArePaired c.args.source s graph c.args.crew.now.capacity x.finished.programs.items x.finished.lanes.items)
    (λ x. AreAnswers Amount s (map hops_in x.finished.programs.items) x.hops.of_vertices.items)
    (λ x. AreLeastArcs graph c.args.source x.hops.of_vertices.items)
    said.paired said.hops
    (λ x run held. (hops_over s said.laws graph c.n.ensures.graph same _ _ x.hops.of_vertices.items (record { source = c.args.source }) (map hops_in x.finished.programs.items) run.hops held).0)

pub returns-clause-roots : goal.returns-clause-roots
returns-clause-roots g c =
    let s : Sharing = block.sharing c.new-dist.result in
    let graph = c.args.graph.now in
    let said = c.search_over.ensures in
    let same : graph.n ≡ s.n = sym (c.new-dist.ensures.vertices ∙ c.n.ensures.value) in
    ok_both c.search_over.result
    (λ x. ArePaired c.args.source s graph c.args.crew.now.capacity x.finished.programs.items x.finished.lanes.items)
    (λ x. AreAnswers Class s (map roots_in x.finished.programs.items) x.roots.of_vertices.items)
    (λ x. AreLowest graph x.roots.of_vertices.items)
    said.paired said.roots
    (λ x run held. (roots_over s said.laws graph c.n.ensures.graph same _ _ x.roots.of_vertices.items (record {}) (map roots_in x.finished.programs.items) run.roots held).0)

pub returns-clause-carried : goal.returns-clause-carried
returns-clause-carried g c =
    let s : Sharing = block.sharing c.new-dist.result in
    let graph = c.args.graph.now in
    let made = c.new-dist.ensures in
    let said = c.search_over.ensures in
    let same : graph.n ≡ s.n = sym (made.vertices ∙ c.n.ensures.value) in
    let blocks : IsInBlocks c.n.result c.args.crew.now.ranks s = record { vertices = made.vertices; group = made.ranks; counts = made.counts; blocks = made.blocks } in
    ok_both c.search_over.result
    (λ x. ArePaired c.args.source s graph c.args.crew.now.capacity x.finished.programs.items x.finished.lanes.items)
    (λ x. AreAnswers Amount s (map hops_in x.finished.programs.items) x.hops.of_vertices.items × AreAnswers Class s (map roots_in x.finished.programs.items) x.roots.of_vertices.items)
    (λ x. IsPairCarried c.args.source c.args.crew.now.ranks c.args.crew.now.capacity graph x.hops.of_vertices.items x.roots.of_vertices.items x.finished.programs.items x.finished.lanes.items)
    said.paired
    (ok_both c.search_over.result (λ x. AreAnswers Amount s (map hops_in x.finished.programs.items) x.hops.of_vertices.items) (λ x. AreAnswers Class s (map roots_in x.finished.programs.items) x.roots.of_vertices.items) _
    said.hops said.roots (λ x a b. (a, b)))
    (λ x run held. record {
      sharing = s;
      laws = said.laws;
      distribution = subst (λ n. IsInBlocks n c.args.crew.now.ranks s) c.n.ensures.value blocks;
      paired = run;
      hops_held = held.0;
      roots_held = held.1;
      hops_relaxed = (hops_over s said.laws graph c.n.ensures.graph same _ _ x.hops.of_vertices.items (record { source = c.args.source }) (map hops_in x.finished.programs.items) run.hops held.0).1;
      roots_relaxed = (roots_over s said.laws graph c.n.ensures.graph same _ _ x.roots.of_vertices.items (record {}) (map roots_in x.finished.programs.items) run.roots held.1).1;
    })
