use Rattle.std.proofs.Common.{◌≡◌, [], ◌∷◌, ◌++◌, arith}
use Rattle.std.proofs.lemmas.Grind.{common_steps}
use Rattle.pg_boruvka.proofs.ArcTables.{row_locals, pushed_all, pushed_ends, pushing_more}
use Rattle.pg_boruvka.proofs.arcs.push_arcs.Goals as goal

pub returns-clause-locals : goal.returns-clause-locals
returns-clause-locals c =
    row_locals c.args.part.now c.vertex-from.result.0 c.args.place c.loop-arc.arc-index c.args.arcs.now.items c.loop-arc.arcs.items c.arcs-arc-items.result.now
    c.loop-arc-test.false c.loop-arc.invariant.pushed c.vertex-from.ensures.value c.arcs-arc-items.ensures.row

pub returns-clause-ends : goal.returns-clause-ends
returns-clause-ends c =
    let all = pushed_all c.vertex-from.result.0 c.args.arcs.now.items c.loop-arc.arcs.items c.arcs-arc-items.result.now c.loop-arc.arc-index c.loop-arc-test.false c.loop-arc.invariant.pushed in
    pushed_ends c.args.part.now c.vertex-from.result.0 c.args.place c.args.arcs.now.items c.loop-arc.arcs.items c.arcs-arc-items.result.now all
    c.arcs-arc-items.ensures.row c.vertex-from.ensures.last c.arcs-arc-items.ensures.own

pub loop-arc-preserved : goal.loop-arc-preserved
loop-arc-preserved c =
    let pushed : c.push.new.self.items ≡ c.loop-arc.arcs.items ++ c.new.result ∷ [] = grind (arith, common_steps) in
    pushing_more c.vertex-from.result.0 c.args.arcs.now.items c.loop-arc.arcs.items c.push.new.self.items c.new.result c.arcs-arc-items.result.now c.loop-arc.arc-index _
    c.loop-arc-test.true c.new.ensures.value c.new.ensures.small pushed c.loop-arc.invariant.pushed c.loop-arc.invariant.small
