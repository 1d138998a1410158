use Rattle.std.proofs.Common.{◌+◌, refl, arith}
use Rattle.pg_colour.specs.declared.TheConstants.{NO_COLOUR}
use Rattle.pg_colour.specs.Shown.{state_of}
use Rattle.pg_bench.proofs.Bounds.{maxed, some_place, none_place}
use Rattle.pg_bench.proofs.chosen.colours_of.Goals as goal
use Rattle.pg_bench.proofs.chosen.colours_of.Goals.{in-Some, in_default}

pub loop-place-preserved : goal.loop-place-preserved
loop-place-preserved c =
    let own = (state_of c.args.colouring.now).own in
    elim c.match-colour.branch [
      | in-Some w ↦ some_place own NO_COLOUR c.loop-place.place c.loop-place.count w.in-Some.colour c.match-colour.count c.colour.result c.loop-place.invariant w.in-Some.is c.colour.ensures.none c.colour.ensures.some (omega (arith, w.count-is, maxed c.loop-place.count (w.from.result + 1) w.max-count.result w.max-count.ensures, w.from.ensures))
      | in_default w ↦ none_place own NO_COLOUR c.loop-place.place c.loop-place.count c.match-colour.count c.loop-place.invariant (w.in_default.ensures.none.0 refl) w.count-is
    ]
