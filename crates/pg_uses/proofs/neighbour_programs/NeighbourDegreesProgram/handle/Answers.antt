use Rattle.std.proofs.Common.{refl, sym, ◌∙◌}
use Rattle.pg_uses.proofs.Keeping.{handled_kept, late_kept}
use Rattle.pg_uses.proofs.neighbour_programs.NeighbourDegreesProgram.handle.Goals as goal

pub returns-then-not-self-clause-kept : goal.returns-then-not-self-clause-kept
returns-then-not-self-clause-kept c = λ start handled sent kept.
    let p = c.args.self.now in
    handled_kept start p _ handled sent (record { part = refl; phase = c.handle.ensures.phase; cast = refl; ended = refl }) kept
    c.args.from.0 c.args.body c.requires c.if-not-self.true c.handle.ensures.step

pub returns-else-not-self-clause-kept : goal.returns-else-not-self-clause-kept
returns-else-not-self-clause-kept c = λ start handled sent kept.
    let p = c.args.self.now in
    late_kept start p p handled sent (record { part = refl; phase = refl; cast = refl; ended = refl }) kept
    c.args.from.0 c.args.body c.requires (sym p.over ∙ c.if-not-self.false) refl
