use Rattle.std.proofs.Common.{◌∙◌, sym, subst}
use Rattle.pg_bench.specs.Pairs.{EachPair}
use Rattle.pg_bench.proofs.Paired.{beside}
use Rattle.pg_bench.proofs.groups.group_of.Goals as goal

pub assemble-requires-clause-ranks : goal.assemble-requires-clause-ranks
assemble-requires-clause-ranks g c κs within = λ place p at.
    let made = c.in_ok-programs.ensures in
    let part = beside c.args.parts.items c.in_ok-programs.programs.items made.count place p at in
    made.own place part.0 p part.1 at ∙ (c.requires.order place part.0 part.1).0

pub assemble-requires-clause-sizes : goal.assemble-requires-clause-sizes
assemble-requires-clause-sizes g c κs within = λ place p at.
    let made = c.in_ok-programs.ensures in
    let part = beside c.args.parts.items c.in_ok-programs.programs.items made.count place p at in
    made.size place part.0 p part.1 at ∙ (c.requires.order place part.0 part.1).1 ∙ sym made.count

pub returns-clause-is_of : goal.returns-clause-is_of
returns-clause-is_of g c =
    subst (λ programs. EachPair (λ part p. g.M.Maker.IsOf c.args.maker.now part p.program) c.args.parts.items programs) (sym c.in_ok-group.ensures.openings) c.in_ok-programs.ensures.is_of
