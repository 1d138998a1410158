use Rattle.std.proofs.Common.{◌≡◌, ◌<◌, length, refl, sym, subst, arith}
use Rattle.std.specs.Prelude.{Some, slice_get}
use Rattle.std.proofs.lemmas.Option.{slice_get_read}
use Rattle.pg_uses.specs.Degrees.{IsGreatestDegree}
use Rattle.pg_uses.proofs.runs.greatest_degree_over.Goals as goal

pub returns : goal.returns
returns g c =
    let programs = c.in_ok-finished.finished.programs.items in
    let first = c.index.result.now in
    let some : 0 < length programs = omega (arith, c.in_ok-finished.ensures.count, c.ranks.ensures, c.count-ranks.ensures.value, c.count-ranks.ensures.at_least_one) in
    let there : slice_get programs 0 ≡ Some first = slice_get_read programs (length programs) 0 first refl some c.index.ensures in
    subst (IsGreatestDegree c.args.graph.now) (sym c.greatest.ensures) (c.in_ok-finished.ensures.each 0 first there)
