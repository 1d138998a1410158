use Rattle.std.proofs.Common.{length, refl}
use Rattle.pg_dist.specs.Sharing.{Sharing, IsSharing}
use Rattle.pg_adj.specs.declared.rows.ArcRows.{ArcRows}
use Rattle.pg_adj.proofs.SizedRows.{fits_lent, sized_lent, filled_rows}
use Rattle.pg_adj.proofs.Keeping.{sized_can_keep}
use Rattle.pg_adj.proofs.owning.own_rows.Goals as goal

pub rows_for-requires-clause-fits : goal.rows_for-requires-clause-fits
rows_for-requires-clause-fits g c =
    let s : Sharing = g.D.Distribution.sharing c.args.dist.now in
    let laws : IsSharing s = g.met.D.Distribution.laws c.args.dist.now in
    fits_lent s laws c.args.edges.now c.requires.within c.requires.few c.args.rank.0 c.requires.rank c.in_ok-vertices.vertices.items c.args.degrees.now c.deref.result.now c.args.degrees.now
    c.deref.ensures.value refl c.requires.degrees c.in_ok-vertices.ensures.count c.in_ok-vertices.ensures.each

pub fill_own-requires-clause-room : goal.fill_own-requires-clause-room
fill_own-requires-clause-room g c =
    let s : Sharing = g.D.Distribution.sharing c.args.dist.now in
    let laws : IsSharing s = g.met.D.Distribution.laws c.args.dist.now in
    let x : ArcRows = c.in_ok-rows.rows in
    sized_can_keep s laws c.args.edges.now c.args.rank.0 x.bounds.items (length x.arcs.items)
    (sized_lent s laws c.args.edges.now c.requires.within c.requires.few c.args.rank.0 c.requires.rank c.in_ok-vertices.vertices.items c.args.degrees.now c.deref.result.now c.args.degrees.now
    x.bounds.items (length x.arcs.items) c.deref.ensures.value refl c.requires.degrees c.in_ok-vertices.ensures.count c.in_ok-vertices.ensures.each
    c.in_ok-rows.ensures.count c.in_ok-rows.ensures.first c.in_ok-rows.ensures.starts c.in_ok-rows.ensures.size)

pub returns : goal.returns
returns g c =
    let s : Sharing = g.D.Distribution.sharing c.args.dist.now in
    let laws : IsSharing s = g.met.D.Distribution.laws c.args.dist.now in
    let x : ArcRows = c.in_ok-rows.rows in
    let y : ArcRows = c.fill_own.new.rows in
    filled_rows s laws c.args.edges.now c.requires.within c.requires.few c.args.rank.0 c.requires.rank x.bounds.items y.bounds.items x.arcs.items y.arcs.items
    (sized_lent s laws c.args.edges.now c.requires.within c.requires.few c.args.rank.0 c.requires.rank c.in_ok-vertices.vertices.items c.args.degrees.now c.deref.result.now c.args.degrees.now
    x.bounds.items (length x.arcs.items) c.deref.ensures.value refl c.requires.degrees c.in_ok-vertices.ensures.count c.in_ok-vertices.ensures.each
    c.in_ok-rows.ensures.count c.in_ok-rows.ensures.first c.in_ok-rows.ensures.starts c.in_ok-rows.ensures.size)
    c.fill_own.ensures
