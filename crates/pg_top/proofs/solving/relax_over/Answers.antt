use Rattle.std.proofs.Common.{sym, subst}
use Rattle.pg_dist.specs.Sharing.{Sharing}
use Rattle.pg_top.specs.Relaxed.{HavePlaces}
use Rattle.pg_top.proofs.OverBooks.{places_of}
use Rattle.pg_top.proofs.solving.relax_over.Goals as goal

pub answers-requires-clause-places : goal.answers-requires-clause-places
answers-requires-clause-places g c =
    let s : Sharing = g.D.Distribution.sharing c.args.dist.now in
    let said = c.in_ok-finished.ensures in
    subst (λ ps. HavePlaces s ps) (sym c.deref.ensures.value)
    (places_of c.args.label s said.laws c.args.graph c.args.crew.now.capacity c.in_ok-finished.finished.programs.items c.in_ok-finished.finished.lanes.items said.found)
