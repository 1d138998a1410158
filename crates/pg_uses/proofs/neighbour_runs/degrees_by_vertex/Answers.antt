use Rattle.std.proofs.Common.{◌+◌, ◌≤◌, subst, arith}
use Rattle.pg_cells.specs.Shown.{state_of}
use Rattle.pg_uses.specs.DegreeMaps.{IsValueBeside}
use Rattle.pg_uses.specs.Greatest.{IsGreatest}
use Rattle.pg_uses.specs.Synchronizing.{part_in}
use Rattle.pg_uses.proofs.Looking.{answers_for, one_more_first, owner_program}
use Rattle.pg_uses.proofs.neighbour_runs.degrees_by_vertex.Goals as goal

pub greatest-requires-clause-place : goal.greatest-requires-clause-place
greatest-requires-clause-place g c =
    let s = g.D.Distribution.sharing c.args.dist.now in
    let laws = g.met.D.Distribution.laws c.args.dist.now in
    let v = c.loop-i.i + 1 in
    let p = c.index-programs-owner.result in
    let last : v ≤ s.n = omega (arith, c.loop-i-test.true, c.n-i-end.ensures.value, c.requires.n) in
    let at = owner_program s laws c.args.programs.now v c.owner.result.0 p (omega arith) last c.requires.count c.owner.ensures c.index-programs-owner.is in
    omega (arith, c.local.ensures, laws.local_below v (omega arith) last, (c.requires.neighbours (s.owner v) p at).count)

pub greatest-requires-clause-neighbours : goal.greatest-requires-clause-neighbours
greatest-requires-clause-neighbours g c =
    let s = g.D.Distribution.sharing c.args.dist.now in
    let laws = g.met.D.Distribution.laws c.args.dist.now in
    let v = c.loop-i.i + 1 in
    let p = c.index-programs-owner.result in
    let last : v ≤ s.n = omega (arith, c.loop-i-test.true, c.n-i-end.ensures.value, c.requires.n) in
    let at = owner_program s laws c.args.programs.now v c.owner.result.0 p (omega arith) last c.requires.count c.owner.ensures c.index-programs-owner.is in
    (c.requires.neighbours (s.owner v) p at).known c.local.result (greatest-requires-clause-place g c)

pub loop-i-preserved : goal.loop-i-preserved
loop-i-preserved g c =
    let s = g.D.Distribution.sharing c.args.dist.now in
    let laws = g.met.D.Distribution.laws c.args.dist.now in
    let v = c.loop-i.i + 1 in
    let p = c.index-programs-owner.result in
    let x = c.greatest.result in
    let last : v ≤ s.n = omega (arith, c.loop-i-test.true, c.n-i-end.ensures.value, c.requires.n) in
    let at = owner_program s laws c.args.programs.now v c.owner.result.0 p (omega arith) last c.requires.count c.owner.ensures c.index-programs-owner.is in
    let is = answers_for s laws c.args.graph.now p v x (omega arith) last (c.requires.neighbours (s.owner v) p at) (c.requires.degrees (s.owner v) p at)
    (subst (λ k. IsGreatest (IsValueBeside (part_in p) (state_of p.cells) k) x) c.local.ensures c.greatest.ensures) in
    one_more_first c.args.graph.now c.loop-i.i x c.loop-i.degrees.items c.push.new.self.items c.in-Ok.ensures.items is c.loop-i.invariant
