use Rattle.std.proofs.Common.{sym, subst}
use Rattle.pg_dist.specs.Sharing.{Sharing}
use Rattle.pg_top.specs.Coloured.{HavePlaces}
use Rattle.pg_top.proofs.ColourLemmas.{places_of}
use Rattle.pg_top.proofs.colours.colour_over.Goals as goal

pub colours_of-requires-clause-places : goal.colours_of-requires-clause-places
colours_of-requires-clause-places g c =
    let s : Sharing = g.D.Distribution.sharing c.args.dist.now in
    let said = c.in_ok-finished.ensures in
    subst (λ ps. HavePlaces s ps) (sym c.deref.ensures.value)
    (places_of s c.args.graph c.args.crew.now.capacity c.in_ok-finished.finished.programs.items c.in_ok-finished.finished.lanes.items said.coloured said.laws)
