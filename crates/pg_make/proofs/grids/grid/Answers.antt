use Rattle.std.proofs.Common.{◌*◌, ◌+◌, ◌-◌, ◌++◌, ◌≤◌, List, All, ap, subst, sym, ◌∙◌, arith}
use Rattle.pg_base.specs.Graph.{IsGraph}
use Rattle.pg_base.specs.declared.edges.Edge.{Edge}
use Rattle.pg_make.specs.Grid.{drawn, ends_after}
use Rattle.pg_make.specs.declared.TheConstants.{MAX_GRID_WEIGHT}
use Rattle.pg_make.proofs.Ascending.{ends_left, drawn_all, grids_are_graphs, weights_are_small}
use Rattle.pg_make.proofs.grids.grid.Goals as goal

pub loop-passed-preserved : goal.loop-passed-preserved
loop-passed-preserved c =
    let width = c.args.width in
    let height = c.args.height in
    let k = c.loop-passed.passed in
    let rest = ends_after width height (k + 1) (width * height - (k + 1)) in
    let before = c.loop-passed.drawing in
    record {
      whole = c.draw_neighbours.ensures.drawn rest
          ∙ (ap (λ ends. before.edges.items ++ drawn before.state ends) (sym (ends_left width height k (width * height) c.loop-passed-test.true)) ∙ c.loop-passed.invariant.whole);
      few = omega arith;
      room = omega arith;
    }

pub new-requires : goal.new-requires
new-requires c =
    let width = c.args.width in
    let height = c.args.height in
    let edges = c.loop-passed.drawing.edges.items in
    let whole = drawn_all width height c.loop-passed.passed (width * height) c.loop-passed.drawing.state edges _ c.loop-passed-test.false c.loop-passed.invariant.whole in
    subst (λ (es : List Edge). IsGraph (record { n = width * height; edges = es })) (sym whole)
    (grids_are_graphs width height c.args.seed c.requires.width c.requires.size)

pub returns-clause-weights : goal.returns-clause-weights
returns-clause-weights c =
    let width = c.args.width in
    let height = c.args.height in
    let whole = drawn_all width height c.loop-passed.passed (width * height) c.loop-passed.drawing.state c.loop-passed.drawing.edges.items _ c.loop-passed-test.false c.loop-passed.invariant.whole in
    subst (λ (es : List Edge). All (λ e. e.w ≤ MAX_GRID_WEIGHT) es) (sym (ap (λ g. g.edges) c.new.ensures ∙ whole))
    (weights_are_small width height c.args.seed c.requires.width)
